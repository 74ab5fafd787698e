use Rattle.std.proofs.Common.{◌≡◌, take, drop}
use Rattle.def_map.specs.{ModuleOrder.are_behind, Tables.parents_of}
use Rattle.def_map.proofs.collect.parents_of.Given as goal

abbrev pub invariant-loop-at : goal.invariant-loop-at
invariant-loop-at l = record {
  found : l.list.items ≡ parents_of (take l.at l.modules);
  left : are_behind l.at (parents_of (drop l.at l.modules)) ≡ are_behind 0 (parents_of l.modules);
}
