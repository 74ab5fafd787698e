-- What is told of the imports of a crate.
use Rattle.std.specs.Prelude.{◌≡◌, ◌↔◌, ℕ, Bool, true, List, [], ◌∷◌, Some, map, flat_map, slice_get}
use Rattle.hir_input.specs.declared.ids.FileAstId.{FileAstId}
use Rattle.item_tree.specs.Imports as kept
use Rattle.tree_walk.specs.Listed.{listed_import}
use Rattle.def_map.specs.declared.verdict.Verdict.{Verdict}
use Rattle.def_map.specs.declared.verdict.Verdict.TheVariants.{Nameless}
use Rattle.def_map.specs.declared.def_map.ResolvedImport.{ResolvedImport}
use Rattle.def_map.specs.declared.rows.ItemKey.{ItemKey}
use Rattle.def_map.specs.declared.targets.Target.{Target}
use Rattle.def_map.specs.Crates.{Crate}
use Rattle.def_map.specs.Verdicts.{HasNoName, IsPrivate}
use Rattle.def_map.specs.Told.{IsVerdict}
use Rattle.def_map.specs.Targets.{AreTargets}
use Rattle.def_map.specs.Tables.{CrateSources, CrateRow, imports, rows_of, crate_of}

-- what is told of an import: that it has no name, or its verdict
pub data IsTold {N I : Type 0} (c : Crate N I) (i : ℕ) : Verdict → Type 0 where
  named : {verdict : Verdict} → (HasNoName c i → ⊥) → IsVerdict c i verdict → IsTold c i verdict
  without_name : HasNoName c i → IsTold c i Nameless

-- all that is told of an import is so
pub record IsAnswer {N : Type 0} (c : Crate N ItemKey) (i : ℕ) (verdict : Verdict) (is_private : Bool) (targets : List Target) : Type 0 where
  pub told : IsTold c i verdict
  pub hidden : (is_private ≡ true) ↔ IsPrivate c i
  pub leads : AreTargets c i targets

-- an import where it is written: its module, its use there, and what that imports
abbrev pub ImportPlace : Type 0
ImportPlace = ℕ × FileAstId × kept.Import

abbrev pub row_places : CrateRow → List ImportPlace
row_places (imports at a v x) = (at, a, x) ∷ []
row_places _ = []

abbrev pub import_place : ResolvedImport → ImportPlace
import_place r = (r.«module».0, r.item, listed_import r.«import»)

-- each import of a crate, where it is written, and what is told of it
pub record AreResolved (s : CrateSources) (resolved : List ResolvedImport) : Type 0 where
  pub places : map import_place resolved ≡ flat_map row_places (rows_of s)
  pub told : (i : ℕ) (r : ResolvedImport) → slice_get resolved i ≡ Some r → IsAnswer (crate_of s) i r.verdict r.is_private r.targets.items
