use Rattle.std.proofs.Common.{◌≡◌, map, drop}
use Rattle.std.specs.List.{list_any}
use Rattle.hir_input.specs.Cfg.{cfg_view}
use Rattle.source_imports.specs.ImportExclusion.{exclude}
use Rattle.source_imports.proofs.import_exclusion.excludes_one.Given as goal

abbrev pub invariant-loop-other : goal.invariant-loop-other
invariant-loop-other l = list_any (exclude (cfg_view l.cfg)) (map cfg_view (drop l.other-index l.others)) ≡ list_any (exclude (cfg_view l.cfg)) (map cfg_view l.others)
