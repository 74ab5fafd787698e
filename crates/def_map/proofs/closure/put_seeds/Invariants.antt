use Rattle.std.proofs.Common.{take}
use Rattle.std.specs.List.{All, Contains}
use Rattle.def_map.specs.Inner.Closing.{Seeds, StaysFew}
use Rattle.def_map.proofs.closure.put_seeds.Given as goal

abbrev pub invariant-loop-fact : goal.invariant-loop-fact
invariant-loop-fact l = record {
  grows : Seeds l.seeds l.fn.found.keys l.found.keys;
  has : All (Contains l.found.keys) (take l.fact-index l.seeds);
  few : StaysFew l.fn.found.keys l.found.keys;
}
