use Rattle.std.proofs.Common.{◌≡◌, ◌++◌, flat_map, map, take}
use Rattle.def_map.specs.CrateView.{other_view}
use Rattle.def_map.specs.Inner.Walking.{unseen_other}
use Rattle.def_map.specs.Tables as spec
use Rattle.def_map.specs.Views.{crate_row_view}
use Rattle.def_map.proofs.gather.push_crates.Given as goal

abbrev pub invariant-loop-row : goal.invariant-loop-row
invariant-loop-row l = map other_view l.list.items ≡ map other_view l.fn.list.items ++ map unseen_other (flat_map spec.row_crates (map crate_row_view (take l.row-index l.rows)))
