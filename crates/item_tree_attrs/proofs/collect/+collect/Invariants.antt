-- what was found so far, and what the rest collects behind it, is what all collect behind what was there
use Rattle.std.proofs.Common.{◌≡◌, map, drop, None}
use Rattle.hir_input.specs.Attr.{meta_view}
use Rattle.item_tree_attrs.specs.Collected.{collected_from, join}
use Rattle.item_tree_attrs.proofs.Cutting.{made}
use Rattle.item_tree_attrs.proofs.collect.+collect.Given as goal

abbrev pub invariant-collect_all-loop-meta : goal.invariant-collect_all-loop-meta
invariant-collect_all-loop-meta l =
    join (made l.attrs.items None) (collected_from l.cfg_options l.skipped (map meta_view (drop l.meta-index l.metas)))
    ≡ join (made l.fn.attrs.items None) (collected_from l.cfg_options l.skipped (map meta_view l.metas))
