use Rattle.std.proofs.Common.{◌≡◌, map, drop}
use Rattle.source_imports.specs.ImportCfgs.{cfgs_in}
use Rattle.source_imports.specs.Views.{use_cfgs_view}
use Rattle.source_imports.proofs.import_cfgs.cfgs_in.Given as goal

abbrev pub invariant-loop-item : goal.invariant-loop-item
invariant-loop-item l = cfgs_in (map use_cfgs_view (drop l.item-index l.uses)) l.id ≡ cfgs_in (map use_cfgs_view l.uses) l.id
