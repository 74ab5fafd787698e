-- For the crate's own functions: what is told of imports, by what was found.
use Rattle.std.specs.Prelude.{◌≡◌, ◌<◌, ℕ, Bool, nat_eq, List, [], ◌∷◌, ◌++◌, Some, map, length, slice_get}
use Rattle.std.specs.List.{list_any}
use Rattle.std.specs.Option.{option_map_or, unwrap_or}
use Rattle.def_map.specs.declared.collect.Collected.{Collected}
use Rattle.def_map.specs.declared.def_map.ResolvedImport.{ResolvedImport}
use Rattle.def_map.specs.declared.facts as code
use Rattle.def_map.specs.declared.rows.ItemKey.{ItemKey}
use Rattle.def_map.specs.declared.sources.Manifest as manifest_code
use Rattle.def_map.specs.declared.targets.Target.{Target}
use Rattle.def_map.specs.declared.told.{Found.Found, Told.Told}
use Rattle.def_map.specs.declared.verdict.Verdict.{Verdict}
use Rattle.def_map.specs.declared.verdict.Verdict.TheVariants.{Unknown, Nameless}
use Rattle.def_map.specs.CrateView.{import_view}
use Rattle.def_map.specs.Crates.{Crate, Binding, a_glob, a_name, underscore, nameless, PathImport}
use Rattle.def_map.specs.Found.{verdict_of}
use Rattle.def_map.specs.Private.{private_imports}
use Rattle.def_map.specs.Resolved.{ImportPlace, import_place, IsAnswer}
use Rattle.def_map.specs.Tables.{CrateRow, imports, crate_from}
use Rattle.def_map.specs.Targets.{AreTargetsBy}
use Rattle.def_map.specs.Views.{crate_manifest_view, crate_row_view}

module _ {N : Type 0} where
  abbrev pub verdict_told : Binding N → Verdict → Verdict
  verdict_told nameless verdict = Nameless
  verdict_told a_glob verdict = verdict
  verdict_told (a_name n) verdict = verdict
  verdict_told underscore verdict = verdict

  -- what is told of the import of a number
  abbrev pub verdict_at : List (PathImport N) → List Verdict → ℕ → Verdict
  verdict_at us verdicts i = option_map_or (λ u. verdict_told u.binding (unwrap_or (slice_get verdicts i) Unknown)) (slice_get us i) Unknown

pub record IsToldAt (f : Found) (i : ℕ) (x : Told) : Type 0 where
  pub verdict : x.verdict ≡ verdict_at (map import_view f.imports.now) f.verdicts.now i
  pub hidden : x.is_private ≡ list_any (nat_eq i) f.hidden.now.keys
  pub targets : AreTargetsBy f.table.now f.numbers.now.items.keys f.closure.now.facts.keys i x.targets.items

-- of the first imports
pub record AreToldUpto (f : Found) (count : ℕ) (told : List Told) : Type 0 where
  pub size : length told ≡ count
  pub at : (i : ℕ) (x : Told) → slice_get told i ≡ Some x → IsToldAt f i x

-- by all facts that follow, the items of numbers, and the imports
module _ (t : code.ImportTable.ImportTable) (items : List ItemKey) (facts : List code.Fact.Fact) {N : Type 0} (us : List (PathImport N)) where
  pub record IsToldBy (i : ℕ) (x : Told) : Type 0 where
    pub verdict : i < length t.imports.items → x.verdict ≡ option_map_or (λ u. verdict_told u.binding (verdict_of t facts i)) (slice_get us i) Unknown
    pub hidden : x.is_private ≡ list_any (nat_eq i) (private_imports t facts)
    pub targets : AreTargetsBy t items facts i x.targets.items

  pub record AreToldBy (told : List Told) : Type 0 where
    pub size : length told ≡ length us
    pub at : (i : ℕ) (x : Told) → slice_get told i ≡ Some x → IsToldBy i x

-- what is told is so
pub record AreAnswers {N : Type 0} (c : Crate N ItemKey) (told : List Told) : Type 0 where
  pub size : length told ≡ length c.imports
  pub at : (i : ℕ) (x : Told) → slice_get told i ≡ Some x → IsAnswer c i x.verdict x.is_private x.targets.items

-- ---- with the places of imports

abbrev pub Answer : Type 0
Answer = ImportPlace × Verdict × Bool × List Target

abbrev pub resolved_answer : ResolvedImport → Answer
resolved_answer r = (import_place r, r.verdict, r.is_private, r.targets.items)

abbrev pub told_answer : ImportPlace → Told → Answer
told_answer p x = (p, x.verdict, x.is_private, x.targets.items)

-- the import of a row, with what is told next
abbrev pub row_answers : CrateRow → List Told → List Answer
row_answers (imports at a v x) (told ∷ rest) = told_answer (at, a, x) told ∷ []
row_answers _ told = []

abbrev pub told_left : CrateRow → List Told → List Told
told_left (imports at a v x) (told ∷ rest) = rest
told_left _ told = told

abbrev pub rows_answers : List CrateRow → List Told → List Answer
rows_answers [] told = []
rows_answers (row ∷ rows) told = row_answers row told ++ rows_answers rows (told_left row told)

-- the crate of rows that were collected
abbrev pub collected_crate : Collected → manifest_code.Manifest → Crate (List ℕ) ItemKey
collected_crate c manifest = crate_from c.parents.items (crate_manifest_view manifest) (map crate_row_view c.rows.items)
