use Rattle.std.proofs.Common.{◌≡◌, map, take}
use Rattle.tree_walk.proofs.preorder.Given as goal

abbrev pub invariant-loop-step : goal.invariant-loop-step
invariant-loop-step l = l.found.items ≡ map (λ s. s.id) (take l.step-index l.step-items)
