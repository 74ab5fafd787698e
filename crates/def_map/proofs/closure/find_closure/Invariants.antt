use Rattle.def_map.specs.Inner.Closing.{places_at}
use Rattle.def_map.proofs.Closing.{Goes}
use Rattle.def_map.proofs.closure.find_closure.Given as goal

abbrev pub invariant-loop-at : goal.invariant-loop-at
invariant-loop-at l = Goes l.table l.seeds l.at l.found.keys (places_at l.index) l.joins
