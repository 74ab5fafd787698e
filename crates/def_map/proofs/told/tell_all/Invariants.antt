use Rattle.def_map.specs.Inner.Told.{AreToldUpto}
use Rattle.def_map.proofs.told.tell_all.Given as goal

abbrev pub invariant-loop-number : goal.invariant-loop-number
invariant-loop-number l = AreToldUpto l.found l.number l.told.items
