use Rattle.std.proofs.Common.{◌≡◌, ◌++◌, map, take, flat_map}
use Rattle.hir_input.specs.Attr.{meta_view}
use Rattle.hir_input.specs.Cfg.{cfg_view}
use Rattle.source_listing.specs.MetaCfgs.{meta_cfgs}
use Rattle.source_listing.proofs.meta_cfgs.+metas.Given as goal

abbrev pub invariant-push_of_metas-loop-meta : goal.invariant-push_of_metas-loop-meta
invariant-push_of_metas-loop-meta l = map cfg_view l.out.items ≡ map cfg_view l.initial.out.items ++ flat_map meta_cfgs (map meta_view (take l.meta-index l.metas))
