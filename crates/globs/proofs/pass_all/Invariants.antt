use Rattle.std.proofs.Common.{◌≤◌, length, drop}
use Rattle.globs.specs.Globs.{matches}
use Rattle.globs.specs.Inner.{IsRow}
use Rattle.globs.proofs.pass_all.Given as goal

abbrev pub invariant-loop-at : goal.invariant-loop-at
invariant-loop-at l = (l.at ≤ length l.glob) × IsRow (matches (drop l.at l.glob)) l.path l.row

abbrev pub decreases-loop-at : goal.decreases-loop-at
decreases-loop-at l = l.at
