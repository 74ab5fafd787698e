use Rattle.std.proofs.Common.{◌≡◌, ◌++◌, take, map}
use Rattle.def_map.specs.CrateView.{veil_view}
use Rattle.def_map.specs.Seeding.{veil_seed}
use Rattle.def_map.proofs.seeds.push_veils.Given as goal

abbrev pub invariant-loop-veil : goal.invariant-loop-veil
invariant-loop-veil l = l.seeds.items ≡ l.fn.seeds.items ++ map veil_seed (map veil_view (take l.veil-index l.veils))
