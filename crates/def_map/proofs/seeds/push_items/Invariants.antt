use Rattle.std.proofs.Common.{◌≡◌, ◌++◌, take, map}
use Rattle.def_map.specs.Seeding.{macro_seed}
use Rattle.def_map.proofs.seeds.push_items.Given as goal

abbrev pub invariant-loop-item : goal.invariant-loop-item
invariant-loop-item l = l.seeds.items ≡ l.fn.seeds.items ++ map (macro_seed l.number) (take l.item-index l.items)
