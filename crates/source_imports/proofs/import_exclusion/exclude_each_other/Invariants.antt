use Rattle.std.proofs.Common.{◌≡◌, map, drop}
use Rattle.hir_input.specs.Cfg.{cfg_view}
use Rattle.source_imports.specs.ImportExclusion.{exclude_each_other}
use Rattle.source_imports.proofs.import_exclusion.exclude_each_other.Given as goal

abbrev pub invariant-loop-cfg : goal.invariant-loop-cfg
invariant-loop-cfg l = exclude_each_other (map cfg_view (drop l.cfg-index l.cfgs)) (map cfg_view l.others) ≡ exclude_each_other (map cfg_view l.cfgs) (map cfg_view l.others)
