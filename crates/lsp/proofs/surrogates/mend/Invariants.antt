use Rattle.std.proofs.Common.{◌≡◌, ◌++◌, ◌-◌, drop, length, take}
use Rattle.lsp.specs.Surrogates as spec
use Rattle.lsp.proofs.surrogates.mend.Given as goal

abbrev pub invariant-loop-at : goal.invariant-loop-at
invariant-loop-at l = spec.surrogates_mended l.initial.bytes ≡ take l.at l.bytes ++ spec.surrogates_mended (drop l.at l.bytes)

abbrev pub decreases-loop-at : goal.decreases-loop-at
decreases-loop-at l = length l.bytes - l.at
