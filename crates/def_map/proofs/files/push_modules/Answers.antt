use Rattle.std.proofs.Common.{map}
use Rattle.def_map.specs.{Tables.module_rows, Views.crate_row_view, Views.sources_view}
use Rattle.def_map.proofs.LentItems.{module_more}
use Rattle.def_map.proofs.files.push_modules.Goals as goal

pub loop-at-preserved : goal.loop-at-preserved
loop-at-preserved c =
    let h = module_rows c.args.ctx.now.parents.now (sources_view c.args.ctx.now.sources) in
    module_more h c.args.ctx.now.sources.modules.now c.loop-at.at c.index-modules-at.result (map crate_row_view c.loop-at.rows.items) (map crate_row_view c.push_module.new.rows.items) _ c.loop-at-test.true c.index-modules-at.is
    c.in_ok-push_module.ensures c.loop-at.invariant
