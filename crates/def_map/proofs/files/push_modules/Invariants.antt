use Rattle.std.proofs.Common.{◌≡◌, ◌++◌, drop, map, flat_map}
use Rattle.std.specs.List.{enumerate_from}
use Rattle.def_map.specs.{Tables.module_rows, Views.crate_row_view, Views.sources_view}
use Rattle.def_map.proofs.files.push_modules.Given as goal

abbrev pub invariant-loop-at : goal.invariant-loop-at
invariant-loop-at l =
    let h = module_rows l.ctx.parents.now (sources_view l.ctx.sources) in
    map crate_row_view l.rows.items ++ flat_map h (enumerate_from l.at (drop l.at l.ctx.sources.modules.now)) ≡ map crate_row_view l.fn.rows.items ++ flat_map h (enumerate_from 0 l.ctx.sources.modules.now)
