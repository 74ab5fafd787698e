use Rattle.std.proofs.Common.{◌≡◌, take, map}
use Rattle.def_map.specs.Closing.{table_import, loop_import}
use Rattle.def_map.specs.CrateView.{import_view}
use Rattle.def_map.specs.Lowering.{import_by}
use Rattle.def_map.proofs.lower.lower_imports.Given as goal

abbrev pub invariant-loop-import : goal.invariant-loop-import
invariant-loop-import l = map table_import l.lowered.items ≡ map loop_import (map (import_by l.numbers) (map import_view (take l.import-index l.imports)))
