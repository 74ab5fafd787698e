use Rattle.std.proofs.Common.{ℕ, length}
use Rattle.source_changes.specs.Inner.{AreSameUntil}
use Rattle.source_changes.proofs.kept.same_until.Given as goal

abbrev pub invariant-loop-ours : goal.invariant-loop-ours
invariant-loop-ours l = (place : ℕ) → AreSameUntil place l.ours l.theirs → AreSameUntil place l.fn.ours l.fn.theirs

abbrev pub decreases-loop-ours : goal.decreases-loop-ours
decreases-loop-ours l = length l.ours
