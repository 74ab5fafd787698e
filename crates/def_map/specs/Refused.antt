-- Why nothing is told of the imports of a crate.
use Rattle.std.specs.Prelude.{◌≡◌, ◌≢◌, ◌<◌, ◌≤◌, ◌+◌, ◌^◌, ℕ, true, false, List, [], ◌∷◌, Option, length, count_by, sum_by, AllPairs, Contains}
use Rattle.std.specs.Str.{bytes_eq}
use Rattle.module_tree.specs.Modules.{most_modules}
use Rattle.def_map.specs.declared.closure.ClosureError.{ClosureError}
use Rattle.def_map.specs.declared.closure.ClosureError.TheVariants as closure_code
use Rattle.def_map.specs.declared.collect.CollectError.{CollectError}
use Rattle.def_map.specs.declared.collect.CollectError.TheVariants as collect_code
use Rattle.def_map.specs.declared.def_map.DefMapError.{DefMapError}
use Rattle.def_map.specs.declared.def_map.DefMapError.TheVariants.{OutOfMemory, TooManyModules, OutOfOrder, TooManyNames, TooManyItems, TooManyImports, TooManyPairs, TooManyFacts, TooManyJoins}
use Rattle.def_map.specs.declared.facts as code
use Rattle.def_map.specs.declared.numbers.NumbersError.{NumbersError}
use Rattle.def_map.specs.declared.numbers.NumbersError.TheVariants as numbers_code
use Rattle.def_map.specs.declared.rows.ItemKey.{ItemKey}
use Rattle.def_map.specs.declared.seeds.SeedsError.{SeedsError}
use Rattle.def_map.specs.declared.seeds.SeedsError.TheVariants as seeds_code
use Rattle.def_map.specs.Closing.{IsLowered, AreSeeds}
use Rattle.def_map.specs.Closure.{HasTooManyJoins}
use Rattle.def_map.specs.Crates.{Crate}
use Rattle.def_map.specs.declared.kinds.Visibility.{Visibility}
use Rattle.def_map.specs.Facts.{Fact, Derives, IsGlobCopy}
use Rattle.def_map.specs.ModuleOrder.{are_behind}
use Rattle.def_map.specs.Numbering.{path_names, asked_items}
use Rattle.def_map.specs.Numbers.{crate_by_numbers, IsNumbering}
use Rattle.def_map.specs.Tables.{CrateSources, crate_of, parents_of}

-- how many `macro_rules` have the only name of a path
abbrev pub macros_called : List (List ℕ × ItemKey) → List (List ℕ) → ℕ
macros_called macros [] = 0
macros_called macros (n ∷ []) = count_by (λ p. bytes_eq n p.0) macros
macros_called macros (n ∷ (m ∷ ns)) = 0

-- all of a list are among so many
abbrev pub AreFew : {A : Type 0} → ℕ → List A → Type 0
AreFew {A} most xs = (list : List A) × (length list ≤ most) × ((x : A) → Contains xs x → Contains list x)

module _ (c : Crate (List ℕ) ItemKey) where
  -- the pairs of an import whose path is one name and a `macro_rules` of that name
  abbrev pub macro_pair_count : ℕ
  macro_pair_count = sum_by (λ u. macros_called c.macro_rules u.names) c.imports

  -- different facts that are derived, and different copies: from a module, into another, for these
  pub record Counted : Type 0 where
    pub facts : List (Fact (List ℕ) ItemKey)
    pub copies : List (ℕ × ℕ × Visibility)
    pub derived : (f : Fact (List ℕ) ItemKey) → Contains facts f → Derives c f
    pub copied : (p : ℕ × ℕ × Visibility) → Contains copies p → IsGlobCopy c p.0 p.1 p.2
    pub different : AllPairs (λ f g. f ≢ g) facts
    pub apart : AllPairs (λ p q. p ≢ q) copies

  -- the table and the seeds by which facts follow, for the crate by numbers
  pub record Loop : Type 0 where
    pub number : List ℕ → Option ℕ
    pub item : ItemKey → ℕ
    pub table : code.ImportTable.ImportTable
    pub seeds : List code.Fact.Fact
    pub numbering : IsNumbering number item c
    pub lowered : IsLowered (crate_by_numbers number item c) table
    pub begun : AreSeeds (crate_by_numbers number item c) seeds

  -- it has no more than may be
  pub record IsCrateSmall : Type 0 where
    pub names : AreFew (2 ^ 32) (path_names c)
    pub items : AreFew (2 ^ 32) (asked_items c)
    pub imports : length c.imports ≤ 2 ^ 32
    pub pairs : macro_pair_count ≤ 2 ^ 21

  -- when each error comes that is of the crate's contents
  abbrev pub IsCrateRefused : DefMapError → Type 0
  IsCrateRefused OutOfMemory = Unit {0}
  IsCrateRefused TooManyModules = ⊥
  IsCrateRefused OutOfOrder = ⊥
  IsCrateRefused TooManyNames = 2 ^ 32 < length (path_names c)
  IsCrateRefused TooManyItems = 2 ^ 32 < length (asked_items c)
  IsCrateRefused TooManyImports = 2 ^ 32 < length c.imports
  IsCrateRefused TooManyPairs = 2 ^ 21 < macro_pair_count
  IsCrateRefused TooManyFacts = (d : Counted) × (2 ^ 21 < length d.facts + length d.copies)
  IsCrateRefused TooManyJoins = (l : Loop) × HasTooManyJoins l.table l.seeds

-- when each error comes
abbrev pub AreImportsRefused : CrateSources → DefMapError → Type 0
AreImportsRefused s OutOfMemory = Unit {0}
AreImportsRefused s TooManyModules = most_modules < length s.modules
AreImportsRefused s OutOfOrder = are_behind 0 (parents_of s.modules) ≡ false
AreImportsRefused s e = IsCrateRefused (crate_of s) e

-- no more than may be, in order
pub record IsSmall (s : CrateSources) : Type 0 where
  pub modules : length s.modules ≤ most_modules
  pub ordered : are_behind 0 (parents_of s.modules) ≡ true
  pub contents : IsCrateSmall (crate_of s)

-- ---- errors of parts

abbrev pub collect_error : CollectError → DefMapError
collect_error collect_code.OutOfMemory = OutOfMemory
collect_error collect_code.TooManyModules = TooManyModules
collect_error collect_code.OutOfOrder = OutOfOrder

abbrev pub numbers_error : NumbersError → DefMapError
numbers_error numbers_code.OutOfMemory = OutOfMemory
numbers_error numbers_code.TooManyNames = TooManyNames
numbers_error numbers_code.TooManyItems = TooManyItems

abbrev pub seeds_error : SeedsError → DefMapError
seeds_error seeds_code.OutOfMemory = OutOfMemory
seeds_error seeds_code.TooManyImports = TooManyImports
seeds_error seeds_code.TooManyPairs = TooManyPairs

abbrev pub closure_error : ClosureError → DefMapError
closure_error closure_code.OutOfMemory = OutOfMemory
closure_error closure_code.TooManyFacts = TooManyFacts
closure_error closure_code.TooManyJoins = TooManyJoins
