use Rattle.std.proofs.Common.{take}
use Rattle.std.specs.List.{All}
use Rattle.def_map.specs.Inner.Closing.{Reaches, IsMet, StaysFew}
use Rattle.def_map.proofs.closure.meet.Given as goal

abbrev pub invariant-loop-place : goal.invariant-loop-place
invariant-loop-place l = record {
  reaches : Reaches l.table l.fact l.fn.found.keys l.found.keys;
  met : All (IsMet l.table l.fact l.fn.found.keys l.found.keys) (take l.place-index l.places);
  few : StaysFew l.fn.found.keys l.found.keys;
}
