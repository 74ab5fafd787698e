use Rattle.std.proofs.Common.{◌≡◌, map, take}
use Rattle.def_map.specs.Found.{verdict_by}
use Rattle.def_map.proofs.verdict.tell.Given as goal

abbrev pub invariant-loop-lead : goal.invariant-loop-lead
invariant-loop-lead l = l.told.items ≡ map verdict_by (take l.lead-index l.leads)
