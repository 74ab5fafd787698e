use Rattle.std.proofs.Common.{◌≡◌, length, map}
use Rattle.lsp.specs.Surrogates as spec
use Rattle.lsp.proofs.surrogates.begin_with.Given as goal

abbrev pub invariant-loop-wanted : goal.invariant-loop-wanted
invariant-loop-wanted l = spec.begin_with (map (λ s. s.now) l.initial.wanted) l.initial.left ≡ spec.begin_with (map (λ s. s.now) l.wanted) l.left

abbrev pub decreases-loop-wanted : goal.decreases-loop-wanted
decreases-loop-wanted l = length l.wanted
