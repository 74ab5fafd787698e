use Rattle.std.proofs.Common.{map, None, Some, sym, ap, ◌∙◌, subst}
use Rattle.hir_input.specs.Attr.{meta_view}
use Rattle.item_tree_attrs.specs.{Collected.cut_events, Collected.events, Collected.collected_from, Inner.Collecting.AddsCollected}
use Rattle.item_tree_attrs.proofs.CollectSteps.{cut-CfgAttr, collected_by, Adds-more}
use Rattle.item_tree_attrs.proofs.collect.+collect.Goals as goal

pub collect-returns-else-is_disabled : goal.collect-returns-else-is_disabled
collect-returns-else-is_disabled t c =
    let options = c.args.cfg_options.now in
    let skipped = c.args.skipped.now in
    let kept = sym c.is_disabled.ensures ∙ c.if-is_disabled.false in
    let same = ap (λ ms. collected_from options skipped (map meta_view ms)) c.deref.ensures.value ∙ sym (cut-CfgAttr options skipped c.in-CfgAttr.condition c.in-CfgAttr.metas kept) ∙ ap (λ m. cut_events (events options skipped (meta_view m))) (sym c.in-CfgAttr.is) in
    rw (← same) c.collect_all.ensures

pub collect_all-loop-meta-preserved : goal.collect_all-loop-meta-preserved
collect_all-loop-meta-preserved t c =
    let found = collected_by c.args.cfg_options.now c.args.skipped.now c.meta-item.result in
    let added = subst (λ met. AddsCollected c.loop-meta.attrs.items c.collect.new.attrs.items met found) c.in_default.is c.in_ok-cfg.ensures in
    Adds-more c.args.cfg_options.now c.args.skipped.now c.args.metas.now c.loop-meta.meta-index c.meta-item.result _ _ None c.loop-meta-test.true c.meta-item.is added ∙ c.loop-meta.invariant

pub collect_all-returns-in-Some : goal.collect_all-returns-in-Some
collect_all-returns-in-Some t c =
    let found = collected_by c.args.cfg_options.now c.args.skipped.now c.meta-item.result in
    let added = subst (λ met. AddsCollected c.loop-meta.attrs.items c.collect.new.attrs.items met found) c.in-Some.is c.in_ok-cfg.ensures in
    let whole = Adds-more c.args.cfg_options.now c.args.skipped.now c.args.metas.now c.loop-meta.meta-index c.meta-item.result _ _ (Some c.in-Some.cfg) c.loop-meta-test.true c.meta-item.is added ∙ c.loop-meta.invariant in
    record { attrs = ap (λ x. x.attrs) whole; false_cfg = ap (λ x. x.false_cfg) whole }
