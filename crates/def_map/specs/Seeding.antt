-- For the crate's own functions: the seeds as a list.
use Rattle.std.specs.Prelude.{◌==◌, ◌+◌, ◌&&◌, ℕ, Bool, true, false, not, List, [], ◌∷◌, ◌++◌, map, Option, Some, None, slice_get, sum_by, length, nat_eq, if◌then◌else◌}
use Rattle.std.specs.{HashMap.get, List.filter_map, List.list_any, Option.option_map_or, Option.option_to_list}
use Rattle.def_map.specs.declared.kinds.{Namespace.Namespace, PathStart.PathStart}
use Rattle.def_map.specs.declared.kinds.Namespace.TheVariants.{Types, Values, Macros}
use Rattle.def_map.specs.declared.kinds.PathStart.TheVariants.{Plain}
use Rattle.def_map.specs.declared.kinds.Visibility.TheVariants.{Public, Module}
use Rattle.def_map.specs.declared.facts as code
use Rattle.def_map.specs.declared.facts.Fact.TheVariants.{Names, EveryName, Stands, Gives}
use Rattle.def_map.specs.declared.facts.Thing.TheVariants.{Module as module_thing, Item, Unseen}
use Rattle.def_map.specs.declared.outside.Outside.{Outside}
use Rattle.def_map.specs.Closing.{binding_of, loop_thing}
use Rattle.def_map.specs.Crates.{Crate, NameDeclaration, PathImport, Veil}
use Rattle.def_map.specs.Facts.{is_inner_name, is_wanted, may_leave, import_start}

-- ---- what first names stand for outside of all modules

abbrev pub other_in : Outside → ℕ → Bool
other_in o n = option_map_or (λ others. list_any (nat_eq n) others.keys) o.others true

abbrev pub macros_in : Outside → ℕ → List ℕ
macros_in o n = option_map_or (λ items. items.items) (get nat_eq o.macros n) []

abbrev pub macro_named : ℕ → ℕ × ℕ → Option ℕ
macro_named n p = if n == p.0 then Some p.1 else None

module _ (c : Crate ℕ ℕ) where
  abbrev pub is_other_name : ℕ → Bool
  is_other_name n = option_map_or (list_any (λ p. n == p.0)) c.others true

  abbrev pub macros_named : ℕ → List ℕ
  macros_named n = filter_map (macro_named n) c.macro_rules

-- ---- seeds

abbrev pub is_plain : PathStart → Bool
is_plain Plain = true
is_plain start = false

abbrev pub declaration_seed : NameDeclaration ℕ ℕ → code.Fact.Fact
declaration_seed x = Names x.parent x.namespace x.name (loop_thing x.thing) x.visibility

abbrev pub macro_seed : ℕ → ℕ → code.Fact.Fact
macro_seed i x = Gives i Macros (Item x) (Module 0)

abbrev pub veil_seed : Veil → code.Fact.Fact
veil_seed x = EveryName x.parent x.namespace x.visibility

module _ (c : Crate ℕ ℕ) (other : ℕ → Bool) (macros : ℕ → List ℕ) (hidden : ℕ → Namespace → ℕ → Bool) where
  -- the module in which the path begins declares the name for sure
  abbrev pub is_path_hidden : PathImport ℕ → Namespace → ℕ → Bool
  is_path_hidden u ns n = option_map_or (λ m. hidden m ns n) (import_start c u) false

  abbrev pub inner_seed : ℕ → PathImport ℕ → ℕ → Option code.Fact.Fact
  inner_seed i u n = if other n && not (is_path_hidden u Types n) then Some (Stands i 1 Unseen) else None

  abbrev pub last_seed : ℕ → PathImport ℕ → ℕ → Namespace → Option code.Fact.Fact
  last_seed i u n ns = if is_wanted u ns && not (is_path_hidden u ns n) then Some (Gives i ns Unseen Public) else None

  abbrev pub last_seeds : ℕ → PathImport ℕ → ℕ → List code.Fact.Fact
  last_seeds i u n = option_to_list (last_seed i u n Types) ++ option_to_list (last_seed i u n Values) ++ option_to_list (last_seed i u n Macros)

  abbrev pub gives_macros : PathImport ℕ → ℕ → Bool
  gives_macros u n = is_plain u.start && is_wanted u Macros && not (is_path_hidden u Macros n)

  abbrev pub macro_seeds : ℕ → PathImport ℕ → ℕ → List code.Fact.Fact
  macro_seeds i u n = if gives_macros u n then map (macro_seed i) (macros n) else []

  -- of a first name
  abbrev pub name_seeds : ℕ → PathImport ℕ → ℕ → List code.Fact.Fact
  name_seeds i u n =
      if is_inner_name u 0 then option_to_list (inner_seed i u n)
      else last_seeds i u n ++ macro_seeds i u n

  abbrev pub first_seeds : ℕ → PathImport ℕ → List code.Fact.Fact
  first_seeds i u = if may_leave u.start then option_map_or (name_seeds i u) (slice_get u.names 0) [] else []

  abbrev pub start_seed : ℕ → PathImport ℕ → Option code.Fact.Fact
  start_seed i u = option_map_or (λ m. Some (Stands i 0 (module_thing m))) (import_start c u) None

  abbrev pub import_seeds : ℕ → PathImport ℕ → List code.Fact.Fact
  import_seeds i u = option_to_list (start_seed i u) ++ first_seeds i u

  -- of imports from the i-th on
  abbrev pub imports_seeds : ℕ → List (PathImport ℕ) → List code.Fact.Fact
  imports_seeds i [] = []
  imports_seeds i (u ∷ us) = import_seeds i u ++ imports_seeds (i + 1) us

  abbrev pub all_seeds : List code.Fact.Fact
  all_seeds = map declaration_seed c.declarations ++ map veil_seed c.veils ++ imports_seeds 0 c.imports

-- the import of a table, with where its path begins
abbrev pub started_import : PathStart → code.Import.Import → PathImport ℕ
started_import start w = record { parent = w.home; start = start; names = w.path.items; binding = binding_of w.name; of_types = w.types_alone; visibility = w.visibility }

-- ---- how many there are

-- the `macro_rules` of the only name of a path
abbrev pub macro_count : (ℕ → List ℕ) → List ℕ → ℕ
macro_count macros [] = 0
macro_count macros (n ∷ []) = length (macros n)
macro_count macros (n ∷ (m ∷ ns)) = 0

-- in a table
abbrev pub macro_pairs : (ℕ → List ℕ) → List code.Import.Import → ℕ
macro_pairs macros imports = sum_by (λ w. macro_count macros w.path.items) imports

-- the pairs of an import whose path is one name and a `macro_rules` of that name
abbrev pub pair_count : Crate ℕ ℕ → ℕ
pair_count c = sum_by (λ u. macro_count (macros_named c) u.names) c.imports
