use Rattle.std.proofs.Common.{◌≡◌, map, drop}
use Rattle.hir_input.specs.Cfg.{cfg_view}
use Rattle.source_listing.specs.MetaCfgs.{holds_no_false}
use Rattle.source_listing.proofs.meta_cfgs.holds_no_false.Given as goal

abbrev pub invariant-loop-cfg : goal.invariant-loop-cfg
invariant-loop-cfg l = holds_no_false l.options (map cfg_view (drop l.cfg-index l.cfgs)) ≡ holds_no_false l.options (map cfg_view l.cfgs)
