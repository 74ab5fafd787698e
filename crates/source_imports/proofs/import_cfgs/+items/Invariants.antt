use Rattle.std.proofs.Common.{◌≡◌, ◌++◌, map, take}
use Rattle.hir_input.specs.Cfg.{cfg_view}
use Rattle.hir_input.specs.Syntax.{items_view}
use Rattle.source_imports.specs.ImportCfgs.{items_cfgs}
use Rattle.source_imports.specs.Views.{use_cfgs_view}
use Rattle.source_imports.proofs.import_cfgs.+items.Given as goal

abbrev pub invariant-push_of_items-loop-item : goal.invariant-push_of_items-loop-item
invariant-push_of_items-loop-item l = map use_cfgs_view l.out.items ≡ map use_cfgs_view l.initial.out.items ++ items_cfgs (map cfg_view l.around) (items_view (take l.item-index l.items))
