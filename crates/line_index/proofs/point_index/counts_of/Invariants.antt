use Rattle.std.proofs.Common.{◌-◌, length}
use Rattle.line_index.proofs.Counts.{AreCounted}
use Rattle.line_index.proofs.point_index.counts_of.Given as goal

abbrev pub invariant-loop-at : goal.invariant-loop-at
invariant-loop-at l = AreCounted l.style l.text l.at l.count l.counts.items

abbrev pub decreases-loop-at : goal.decreases-loop-at
decreases-loop-at l = length l.text - l.at
