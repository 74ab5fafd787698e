use Rattle.std.proofs.Common.{rules, map}
use Rattle.hir_input.specs.Cfg.{cfg_view}
use Rattle.source_imports.specs.Views.{use_cfgs_view}
use Rattle.source_imports.proofs.ImportCfgLists.{one_more}
use Rattle.source_imports.proofs.import_cfgs.+items.Goals as goal

pub push_of_items-loop-item-preserved : goal.push_of_items-loop-item-preserved
push_of_items-loop-item-preserved t c =
    one_more (map cfg_view c.args.around.now) c.args.items.now c.loop-item.item-index c.item-item.result (map use_cfgs_view c.args.out.now.items) (map use_cfgs_view c.loop-item.out.items) (map use_cfgs_view c.push_of_item.new.out.items) (search rules) (search rules)
    c.loop-item.invariant c.in_ok-push_of_item.ensures
