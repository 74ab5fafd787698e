-- A crate by numbers.
use Rattle.std.specs.Prelude.{ℕ, Bool, List, Option, Some, None, if◌then◌else◌}
use Rattle.std.specs.Option.{option_and_then}
use Rattle.def_map.specs.declared.facts as code
use Rattle.def_map.specs.declared.numbers.Numbers.{Numbers}
use Rattle.def_map.specs.declared.rows.{CrateRows.CrateRows, ItemKey.ItemKey}
use Rattle.def_map.specs.contracts.facts.DeclaredPartialEq.TheImpl as declared_keys
use Rattle.def_map.specs.Crates.{Crate, Thing, NameDeclaration, PathImport}
use Rattle.def_map.specs.CrateView.{rows_view}
use Rattle.def_map.specs.Numbering.{number_in, item_number}
use Rattle.def_map.specs.Numbers.{crate_by_numbers, numbered_thing, numbered_declaration, renumbered_import, numbered_macro}

module _ (n : Numbers) where
  abbrev pub number_by : List ℕ → Option ℕ
  number_by = number_in n.symbols.keys

  abbrev pub item_by : ItemKey → ℕ
  item_by = item_number n.items.keys

  abbrev pub thing_by : Thing ItemKey → Thing ℕ
  thing_by = numbered_thing number_by item_by

  abbrev pub declaration_by : NameDeclaration (List ℕ) ItemKey → Option (NameDeclaration ℕ ℕ)
  declaration_by = numbered_declaration number_by item_by

  abbrev pub import_by : PathImport (List ℕ) → PathImport ℕ
  import_by = renumbered_import number_by item_by

  abbrev pub macro_by : List ℕ × ItemKey → Option (ℕ × ℕ)
  macro_by = numbered_macro number_by item_by

  abbrev pub crate_by : CrateRows → Crate ℕ ℕ
  crate_by rows = crate_by_numbers number_by item_by (rows_view rows)

-- ---- what is declared for sure

abbrev pub declared_eq : code.Declared.Declared → code.Declared.Declared → Bool
declared_eq = declared_keys.ghosts.eq

abbrev pub sure_name : NameDeclaration ℕ ℕ → Option code.Declared.Declared
sure_name x = if x.is_sure then Some (record { home = x.parent; namespace = x.namespace; name = x.name }) else None

abbrev pub sure_by : Numbers → NameDeclaration (List ℕ) ItemKey → Option code.Declared.Declared
sure_by n x = option_and_then sure_name (declaration_by n x)
