use Rattle.std.proofs.Common.{◌≡◌, ◌-◌}
use Rattle.def_map.specs.Crates as spec
use Rattle.def_map.proofs.sight.module_above.Given as goal

abbrev pub invariant-loop : goal.invariant-loop
invariant-loop l = spec.module_above l.parents (l.count - l.counter) l.above ≡ spec.module_above l.parents l.count l.m
