-- The numbers of names and items: their places among the names that paths have, and among the items that such names stand for.
use Rattle.std.specs.Prelude.{◌≡◌, ◌+◌, ◌≤◌, ◌||◌, ℕ, Bool, List, ◌++◌, Option, Some, None, position, unwrap_or, flat_map, filter_map, length, if◌then◌else◌}
use Rattle.std.specs.{Borrow.Bor, List.list_any, Str.bytes_eq}
use Rattle.def_map.specs.declared.rows.ItemKey.{ItemKey}
use Rattle.def_map.specs.contracts.rows.ItemKeyPartialEq.TheImpl as item_keys
use Rattle.def_map.specs.Crates.{Crate, Thing, a_module, an_item, a_scope, unseen, NameDeclaration}

-- new has what old had, and these; a key is one of them by a test of what it is seen as
pub record Interns {K X : Type 0} (same : X → X → Bool) (of : K → X) (old new : List K) (xs : List X) : Type 0 where
  pub known : (x : X) → list_any (λ key. same x (of key)) new ≡ (list_any (λ key. same x (of key)) old || list_any (same x) xs)
  pub few : length new ≤ length old + length xs

-- ---- the place of a name

abbrev pub number_in : List (Bor (List ℕ)) → List ℕ → Option ℕ
number_in symbols name = position (λ symbol. bytes_eq name symbol.now) symbols

abbrev pub has_number : List (Bor (List ℕ)) → List ℕ → Bool
has_number symbols name = list_any (λ symbol. bytes_eq name symbol.now) symbols

-- ---- and of an item

abbrev pub item_eq : ItemKey → ItemKey → Bool
item_eq = item_keys.ghosts.eq

abbrev pub item_number : List ItemKey → ItemKey → ℕ
item_number items key = unwrap_or (position (item_eq key) items) 0

abbrev pub is_item_numbered : List ItemKey → ItemKey → Bool
is_item_numbered items key = list_any (item_eq key) items

abbrev pub thing_item : {I : Type 0} → Thing I → Option I
thing_item (a_module m) = None
thing_item (an_item x) = Some x
thing_item (a_scope x) = Some x
thing_item unseen = None

-- ---- of a crate

module _ {N I : Type 0} where
  -- the names of all paths
  abbrev pub path_names : Crate N I → List N
  path_names c = flat_map (λ u. u.names) c.imports

  -- the items that names stand for, by a test of names
  abbrev pub declared_item : (N → Bool) → NameDeclaration N I → Option I
  declared_item asks x = if asks x.name then thing_item x.thing else None

  abbrev pub macro_item : (N → Bool) → N × I → Option I
  macro_item asks p = if asks p.0 then Some p.1 else None

  abbrev pub named_items : (N → Bool) → Crate N I → List I
  named_items asks c = filter_map (declared_item asks) c.declarations ++ filter_map (macro_item asks) c.macro_rules

-- a path has the name
abbrev pub is_name_asked : {I : Type 0} → Crate (List ℕ) I → List ℕ → Bool
is_name_asked c name = list_any (bytes_eq name) (path_names c)

-- the items that names of paths stand for
abbrev pub asked_items : {I : Type 0} → Crate (List ℕ) I → List I
asked_items c = named_items (is_name_asked c) c
