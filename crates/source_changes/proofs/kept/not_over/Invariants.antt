use Rattle.std.proofs.Common.{◌≡◌, length}
use Rattle.source_changes.proofs.Common.{not_over}
use Rattle.source_changes.proofs.kept.not_over.Given as goal

abbrev pub invariant-loop-left : goal.invariant-loop-left
invariant-loop-left l = not_over l.place l.left ≡ not_over l.place l.holes

abbrev pub decreases-loop-left : goal.decreases-loop-left
decreases-loop-left l = length l.left
