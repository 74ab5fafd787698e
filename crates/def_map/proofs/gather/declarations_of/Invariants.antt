use Rattle.std.proofs.Common.{◌≡◌, flat_map, map, take}
use Rattle.def_map.specs.CrateView.{declared_view}
use Rattle.def_map.specs.Tables as spec
use Rattle.def_map.specs.Views.{crate_row_view}
use Rattle.def_map.proofs.gather.declarations_of.Given as goal

abbrev pub invariant-loop-row : goal.invariant-loop-row
invariant-loop-row l = map declared_view l.list.items ≡ flat_map spec.row_declarations (map crate_row_view (take l.row-index l.rows))
