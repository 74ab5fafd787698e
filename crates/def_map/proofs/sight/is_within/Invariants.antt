use Rattle.std.proofs.Common.{◌≡◌, ◌-◌}
use Rattle.def_map.specs.Crates as spec
use Rattle.def_map.proofs.sight.is_within.Given as goal

abbrev pub invariant-loop : goal.invariant-loop
invariant-loop l = spec.is_within_by l.parents (l.m - l.counter) l.at l.other ≡ spec.is_module_within l.parents l.m l.other
