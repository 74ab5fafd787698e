use Rattle.std.proofs.Common.{◌≡◌, ◌-◌}
use Rattle.def_map.specs.Tables as spec
use Rattle.def_map.proofs.visibility.child_toward.Given as goal

abbrev pub invariant-loop : goal.invariant-loop
invariant-loop l = spec.child_toward l.parents l.m (l.at - l.counter) l.child ≡ spec.child_toward l.parents l.m l.at l.at
