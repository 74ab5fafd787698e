-- What the verdict on an import says of the crate.
use Rattle.std.specs.Prelude.{◌≡◌, ◌↔◌, ℕ, List, Option, Contains}
use Rattle.def_map.specs.declared.facts as code
use Rattle.def_map.specs.declared.verdict.Verdict.{Verdict}
use Rattle.def_map.specs.declared.verdict.Verdict.TheVariants.{Unresolved, TooWide, Unknown, Resolved}
use Rattle.def_map.specs.Crates.{Crate, Thing, unseen, PathImport}
use Rattle.def_map.specs.Facts.{IsImport}
use Rattle.def_map.specs.Verdicts.{LeadsTo, IsSeen, LeadsNowhere, IsPrivate, IsTooWide}
use Rattle.def_map.specs.Numbers.{crate_by_numbers, IsNumbering}
use Rattle.def_map.specs.Closing.{IsLowered, AreSeeds, SaysOf}
use Rattle.def_map.specs.Closure.{AreClosed, AreWhole}
use Rattle.def_map.specs.Found.{verdict_of}
use Rattle.def_map.specs.Private.{private_imports}

module _ {N I : Type 0} (c : Crate N I) where
  pub data IsVerdict (i : ℕ) : Verdict → Type 0 where
    -- it leads to nothing
    unresolved : LeadsNowhere c i → IsVerdict i Unresolved
    -- all that it gives is seen, and less visible than it
    too_wide : {t : Thing I} → LeadsTo c i t → IsTooWide c i → IsVerdict i TooWide
    -- all that it leads to is unseen
    unknown : LeadsTo c i unseen → ((t : Thing I) → LeadsTo c i t → t ≡ unseen) → IsVerdict i Unknown
    -- it leads to something that is seen, and is not too wide
    resolved : {t : Thing I} → LeadsTo c i t → IsSeen t → (IsTooWide c i → ⊥) → IsVerdict i Resolved

-- the facts that were found are what is derived
abbrev pub AreFactsFound : Crate ℕ ℕ → List code.Fact.Fact → Type 0
AreFactsFound c facts = (f : code.Fact.Fact) → Contains facts f ↔ SaysOf c f

-- they are, where they are closed and whole by the crate's table and seeds
abbrev pub FindsAllFacts : Crate ℕ ℕ → code.ImportTable.ImportTable → List code.Fact.Fact → List code.Fact.Fact → Type 0
FindsAllFacts c t seeds facts = IsLowered c t → AreSeeds c seeds → AreClosed t seeds facts → AreWhole t seeds facts → AreFactsFound c facts

-- then what is told by them is so
abbrev pub IsToldRightly : Crate ℕ ℕ → code.ImportTable.ImportTable → List code.Fact.Fact → Type 0
IsToldRightly c t facts = IsLowered c t → AreFactsFound c facts → (i : ℕ) (u : PathImport ℕ) → IsImport c i u → IsVerdict c i (verdict_of t facts i)

-- and private are those of which it is said
abbrev pub ArePrivate : Crate ℕ ℕ → code.ImportTable.ImportTable → List code.Fact.Fact → Type 0
ArePrivate c t facts = IsLowered c t → AreFactsFound c facts → (i : ℕ) → Contains (private_imports t facts) i ↔ IsPrivate c i

-- and of the crate by names as by numbers
abbrev pub VerdictsAlike : {N I M J : Type 0} → (N → Option M) → (I → J) → Crate N I → Type 0
VerdictsAlike number item c = IsNumbering number item c → (i : ℕ)
    → ((verdict : Verdict) → IsVerdict (crate_by_numbers number item c) i verdict → IsVerdict c i verdict) × (IsPrivate (crate_by_numbers number item c) i ↔ IsPrivate c i)
