use Rattle.globs.proofs.Parts.{PartSome}
use Rattle.globs.proofs.pass_star.Given as goal

abbrev pub invariant-loop-at : goal.invariant-loop-at
invariant-loop-at l = PartSome l.is_double l.path l.initial.row l.row l.at

abbrev pub decreases-loop-at : goal.decreases-loop-at
decreases-loop-at l = l.at
