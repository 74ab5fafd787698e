use Rattle.std.proofs.Common.{◌≡◌, map, take}
use Rattle.hir_input.specs.Cfg.{cfg_view}
use Rattle.source_listing.proofs.meta_cfgs.copies.Given as goal

abbrev pub invariant-loop-cfg : goal.invariant-loop-cfg
invariant-loop-cfg l = map cfg_view l.copies.items ≡ map cfg_view (take l.cfg-index l.cfgs)
