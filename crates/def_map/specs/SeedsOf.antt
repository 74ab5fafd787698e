-- For the crate's own functions: seeds by what is at hand everywhere.
use Rattle.std.specs.Prelude.{ℕ, Bool, List, Option}
use Rattle.def_map.specs.declared.facts as code
use Rattle.def_map.specs.declared.kinds.Namespace.{Namespace}
use Rattle.def_map.specs.declared.seeds.{FirstName.FirstName, Lowered.Lowered}
use Rattle.def_map.specs.Closure.{hides}
use Rattle.def_map.specs.Crates.{Crate, PathImport}
use Rattle.def_map.specs.Lowering.{crate_by}
use Rattle.def_map.specs.Seeding as spec
use Rattle.def_map.specs.Seeding.{other_in, macros_in, started_import}

abbrev pub first_import : FirstName → PathImport ℕ
first_import first = started_import first.start first.import.now

module _ (l : Lowered) where
  abbrev pub lowered_crate : Crate ℕ ℕ
  lowered_crate = crate_by l.numbers.now l.rows.now

  abbrev pub is_lowered_hidden : PathImport ℕ → Namespace → ℕ → Bool
  is_lowered_hidden = spec.is_path_hidden lowered_crate (other_in l.outside.now) (macros_in l.outside.now) (hides l.table.now)

  abbrev pub lowered_inner_seed : ℕ → PathImport ℕ → ℕ → Option code.Fact.Fact
  lowered_inner_seed = spec.inner_seed lowered_crate (other_in l.outside.now) (macros_in l.outside.now) (hides l.table.now)

  abbrev pub lowered_last_seed : ℕ → PathImport ℕ → ℕ → Namespace → Option code.Fact.Fact
  lowered_last_seed = spec.last_seed lowered_crate (other_in l.outside.now) (macros_in l.outside.now) (hides l.table.now)

  abbrev pub lowered_last_seeds : ℕ → PathImport ℕ → ℕ → List code.Fact.Fact
  lowered_last_seeds = spec.last_seeds lowered_crate (other_in l.outside.now) (macros_in l.outside.now) (hides l.table.now)

  abbrev pub lowered_gives_macros : PathImport ℕ → ℕ → Bool
  lowered_gives_macros = spec.gives_macros lowered_crate (other_in l.outside.now) (macros_in l.outside.now) (hides l.table.now)

  abbrev pub lowered_macro_seeds : ℕ → PathImport ℕ → ℕ → List code.Fact.Fact
  lowered_macro_seeds = spec.macro_seeds lowered_crate (other_in l.outside.now) (macros_in l.outside.now) (hides l.table.now)

  abbrev pub lowered_name_seeds : ℕ → PathImport ℕ → ℕ → List code.Fact.Fact
  lowered_name_seeds = spec.name_seeds lowered_crate (other_in l.outside.now) (macros_in l.outside.now) (hides l.table.now)

  abbrev pub lowered_first_seeds : ℕ → PathImport ℕ → List code.Fact.Fact
  lowered_first_seeds = spec.first_seeds lowered_crate (other_in l.outside.now) (macros_in l.outside.now) (hides l.table.now)

  abbrev pub lowered_start_seed : ℕ → PathImport ℕ → Option code.Fact.Fact
  lowered_start_seed = spec.start_seed lowered_crate (other_in l.outside.now) (macros_in l.outside.now) (hides l.table.now)

  abbrev pub lowered_import_seeds : ℕ → PathImport ℕ → List code.Fact.Fact
  lowered_import_seeds = spec.import_seeds lowered_crate (other_in l.outside.now) (macros_in l.outside.now) (hides l.table.now)

  abbrev pub lowered_imports_seeds : ℕ → List (PathImport ℕ) → List code.Fact.Fact
  lowered_imports_seeds = spec.imports_seeds lowered_crate (other_in l.outside.now) (macros_in l.outside.now) (hides l.table.now)
