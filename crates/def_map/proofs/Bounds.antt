-- A crate of which something is told has no more than may be.
use Rattle.std.proofs.Common.{◌≡◌, ◌≤◌, ℕ, List, Bor, refl, sym, subst, ◌∙◌, length, map, Contains}
use Rattle.std.proofs.lemmas.List.{length-map}
use Rattle.std.proofs.lemmas.Slice.Eq.{bytes_eq-Decides}
use Rattle.std.specs.{List.list_any, Str.bytes_eq}
use Rattle.indexmap.proofs.CallerLemmas.{Contains-list_any}
use Rattle.def_map.specs.declared.rows.ItemKey.{ItemKey}
use Rattle.def_map.specs.Crates.{Crate}
use Rattle.def_map.specs.Numbering.{has_number, is_name_asked, is_item_numbered, item_eq, path_names, asked_items}
use Rattle.def_map.specs.Refused.{AreFew}
use Rattle.def_map.proofs.Listing.{contains_mapped}
use Rattle.def_map.proofs.NumberLaws.{item_decides}
use Rattle.def_map.proofs.Telling.{any_of, of_any}

pub names_few : (c : Crate (List ℕ) ItemKey) (symbols : List (Bor (List ℕ))) → length symbols ≤ 4294967296
    → ((name : List ℕ) → has_number symbols name ≡ is_name_asked c name) → AreFew 4294967296 (path_names c)
names_few c symbols few known =
    (map (λ symbol. symbol.now) symbols, subst (λ n. n ≤ 4294967296) (sym (length-map symbols (λ symbol. symbol.now))) few, by)
  where
    by : (name : List ℕ) → Contains (path_names c) name → Contains (map (λ (symbol : Bor (List ℕ)). symbol.now) symbols) name
    by name has =
        let found = any_of (λ symbol. bytes_eq name symbol.now) symbols (known name ∙ of_any (bytes_eq name) (path_names c) name has ((bytes_eq-Decides name name).1 refl)) in
        subst (Contains (map (λ (symbol : Bor (List ℕ)). symbol.now) symbols)) (sym ((bytes_eq-Decides name found.0.now).0 found.2)) (contains_mapped (λ symbol. symbol.now) symbols found.0 found.1)

pub items_few : (c : Crate (List ℕ) ItemKey) (items : List ItemKey) → length items ≤ 4294967296
    → ((key : ItemKey) → is_item_numbered items key ≡ list_any (item_eq key) (asked_items c)) → AreFew 4294967296 (asked_items c)
items_few c items few known =
    (items, few, λ key has. Contains-list_any item_eq (λ a b. (item_decides a b).0) items key (known key ∙ of_any (item_eq key) (asked_items c) key has ((item_decides key key).1 refl)))
