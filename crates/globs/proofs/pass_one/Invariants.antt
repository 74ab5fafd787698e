use Rattle.globs.proofs.Parts.{PartOne}
use Rattle.globs.proofs.pass_one.Given as goal

abbrev pub invariant-loop-at : goal.invariant-loop-at
invariant-loop-at l = PartOne l.p l.path l.initial.row l.row l.at
