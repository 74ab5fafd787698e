use Rattle.std.proofs.Common.{◌≡◌, flat_map, map, take}
use Rattle.def_map.specs.CrateView.{import_view}
use Rattle.def_map.specs.Tables as spec
use Rattle.def_map.specs.Views.{crate_row_view}
use Rattle.def_map.proofs.gather.imports_of.Given as goal

abbrev pub invariant-loop-row : goal.invariant-loop-row
invariant-loop-row l = map import_view l.list.items ≡ flat_map spec.row_imports (map crate_row_view (take l.row-index l.rows))
