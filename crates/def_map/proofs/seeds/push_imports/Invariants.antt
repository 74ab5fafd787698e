use Rattle.std.proofs.Common.{◌≡◌, ◌++◌, take}
use Rattle.def_map.specs.SeedsOf.{lowered_crate, lowered_imports_seeds}
use Rattle.def_map.proofs.seeds.push_imports.Given as goal

abbrev pub invariant-loop-number : goal.invariant-loop-number
invariant-loop-number l = l.seeds.items ≡ l.fn.seeds.items ++ lowered_imports_seeds l.lowered 0 (take l.number (lowered_crate l.lowered).imports)
