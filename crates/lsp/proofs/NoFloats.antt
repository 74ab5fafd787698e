-- What is answered holds no float.
use Rattle.std.proofs.Common.{◌≡◌, ℕ, ℤ, pos, negsuc, Bool, true, false, ◌||◌, List, [], ◌∷◌, ◌++◌, Option, Some, None, refl, map, flat_map}
use Rattle.serde_json.specs.Data.{Data}
use Rattle.serde_json.specs.View.{items_of}
use Rattle.serde_json.specs.Written.{has_float, items_have_float}
use Rattle.item_tree.specs.Node.{Node, leaf, parent, Forest, empty, more, Unfolding}
use Rattle.tree_walk.specs.Rows.{is_file_enabled}
use Rattle.rust_items.specs.declared.source_file.ItemPlace.{ItemPlace}
use Rattle.source_rows.specs.Listed.{members_of}
use Rattle.source_rows.specs.Places.{place_of}
use Rattle.line_index.specs.declared.Units.{Units}
use Rattle.source_problems.specs.declared.problem.SourceProblem.{SourceProblem}
use Rattle.source_imports.specs.Repeated.{Repeat}
use Rattle.lsp.specs.Diagnostics.{diagnostic, diagnostics, notice, repeat_diagnostic}
use Rattle.source_listing.specs.Entries.{ItemView, item_in}
use Rattle.lsp.specs.Symbols.{Page, Symbol, symbol_called, forest_symbols, information, item_symbol, listed_symbol, member_symbols, node_symbols, placed_symbols, protocol_kind, with_symbol, told_in, tree_symbols}
use Rattle.lsp.specs.Bytes.{range_span}

first_none : (a b : Bool) → (a || b) ≡ false → a ≡ false
first_none false b e = refl
first_none true b e = absurd (cc)

second_none : (a b : Bool) → (a || b) ≡ false → b ≡ false
second_none false b e = e
second_none true b e = absurd (cc)

either_none : (a b : Bool) → a ≡ false → b ≡ false → (a || b) ≡ false
either_none a b e f = rw (e, f) refl

both_none : (xs ys : List Data) → items_have_float (items_of xs) ≡ false → items_have_float (items_of ys) ≡ false → items_have_float (items_of (xs ++ ys)) ≡ false
both_none [] ys e f = f
both_none (x ∷ xs) ys e f =
    either_none (has_float x) (items_have_float (items_of (xs ++ ys))) (first_none (has_float x) (items_have_float (items_of xs)) e) (both_none xs ys (second_none (has_float x) (items_have_float (items_of xs)) e) f)

flat_none : {A : Type 0} (each : A → List Data) (xs : List A) → ((x : A) → items_have_float (items_of (each x)) ≡ false) → items_have_float (items_of (flat_map each xs)) ≡ false
flat_none each [] h = refl
flat_none each (x ∷ xs) h = both_none (each x) (flat_map each xs) (h x) (flat_none each xs h)

-- ---- symbols

information_none : (p : Page) (uri : List ℕ) (container : Option (List ℕ)) (s : Symbol) → has_float (information uri container (range_span p.units p.text s.range) s) ≡ false
information_none p uri None s = refl
information_none p uri (Some name) s = refl

told_in_none : (flat : Option (List ℕ)) (p : Page) (container : Option (List ℕ)) (s : Symbol) (inner : List Data) → items_have_float (items_of inner) ≡ false → items_have_float (items_of (told_in flat p container s inner)) ≡ false
told_in_none None p container s inner h = rw h refl
told_in_none (Some uri) p container s inner h = either_none (has_float (information uri container (range_span p.units p.text s.range) s)) (items_have_float (items_of inner)) (information_none p uri container s) h

told_none : (p : Page) (container : Option (List ℕ)) (s : Symbol) (inner : List Data) → items_have_float (items_of inner) ≡ false → items_have_float (items_of (with_symbol p container s inner)) ≡ false
told_none p container s inner h = told_in_none p.flat_in p container s inner h

members_none : (p : Page) (name : List ℕ) (is_active : Bool) (place : ItemPlace) → items_have_float (items_of (member_symbols p name is_active place)) ≡ false
members_none p name is_active place =
    flat_none (λ m. with_symbol p (Some name) (listed_symbol p.text p.reserved m) []) (members_of p.reading (Some place) is_active) (λ m. told_none p (Some name) (listed_symbol p.text p.reserved m) [] refl)

module _ (p : Page) (places : List ItemPlace) where
  placed_none : (c : Option (List ℕ)) (i : ItemView) (number : Option ℕ) (place : Option ItemPlace) (inner : List Data) → items_have_float (items_of inner) ≡ false → items_have_float (items_of (placed_symbols p places c i number place inner)) ≡ false
  placed_none c i (Some number) (Some place) inner h =
      let s = item_symbol p.reading p.reserved i number place in told_none p c s (member_symbols p s.name i.is_active place ++ inner) (both_none (member_symbols p s.name i.is_active place) inner (members_none p s.name i.is_active place) h)
  placed_none c i (Some number) None inner h = refl
  placed_none c i None place inner h = refl

  mutual
    node_none : (c : Option (List ℕ)) (a : Bool) (n : Node) → items_have_float (items_of (node_symbols p places c a n)) ≡ false
    node_none c a (leaf h l) = let i = item_in a (leaf h l) in placed_none c i (protocol_kind i.id.kind) (place_of i.id places) [] refl
    node_none c a (parent h t f) =
        let i = item_in a (parent h t f) in placed_none c i (protocol_kind i.id.kind) (place_of i.id places) (forest_symbols p places (Some (symbol_called p places i)) i.is_active f) (forest_none (Some (symbol_called p places i)) i.is_active f)

    forest_none : (c : Option (List ℕ)) (a : Bool) (f : Forest) → items_have_float (items_of (forest_symbols p places c a f)) ≡ false
    forest_none c a empty = refl
    forest_none c a (more n f) = both_none (node_symbols p places c a n) (forest_symbols p places c a f) (node_none c a n) (forest_none c a f)

  pub symbols_none : (u : Unfolding) → items_have_float (items_of (tree_symbols p places u)) ≡ false
  symbols_none u = forest_none None (is_file_enabled u) u.forest

-- ---- notices

map_none : {A : Type 0} (each : A → Data) (xs : List A) → ((x : A) → has_float (each x) ≡ false) → items_have_float (items_of (map each xs)) ≡ false
map_none each [] h = refl
map_none each (x ∷ xs) h = either_none (has_float (each x)) (items_have_float (items_of (map each xs))) (h x) (map_none each xs h)

-- what is told of a document holds none
pub notice_none : (uri : List ℕ) (version : Option ℤ) (ds : List Data) → items_have_float (items_of ds) ≡ false → has_float (notice uri version ds) ≡ false
notice_none uri None ds h = rw h refl
notice_none uri (Some (pos n)) ds h = rw h refl
notice_none uri (Some (negsuc n)) ds h = rw h refl

pub diagnostics_none : (units : Units) (text : List ℕ) (ps : List SourceProblem) (rs : List Repeat) → items_have_float (items_of (diagnostics units text ps rs)) ≡ false
diagnostics_none units text ps rs =
    both_none (map (diagnostic units text) ps) (map (repeat_diagnostic units text) rs) (map_none (diagnostic units text) ps (λ p. refl)) (map_none (repeat_diagnostic units text) rs (λ r. refl))
