use Rattle.std.proofs.Common.{take}
use Rattle.std.specs.List.{All}
use Rattle.def_map.specs.Inner.Closing.{Reaches, IsFactFollowed, StaysFew}
use Rattle.def_map.proofs.closure.follow.Given as goal

abbrev pub invariant-loop-namespace : goal.invariant-loop-namespace
invariant-loop-namespace l = record {
  reaches : Reaches l.table l.fact l.fn.found.keys l.found.keys;
  followed : All (IsFactFollowed l.table l.fact l.found.keys) (take l.namespace-index l.namespaces);
  few : StaysFew l.fn.found.keys l.found.keys;
}
