use Rattle.std.proofs.Common.{sym, ap, ◌∙◌}
use Rattle.std.specs.Box.{with_value}
use Rattle.item_tree_attrs.specs.declared.collect.AttrsOrCfg.TheVariants.{Enabled, CfgDisabled}
use Rattle.item_tree_attrs.proofs.merge.put_before.Goals as goal

pub returns-in-Err-prepend-clause-unchanged : goal.returns-in-Err-prepend-clause-unchanged
returns-in-Err-prepend-clause-unchanged c =
    let kept = c.in-Err-prepend.ensures.err in
    let cfg = ap (λ both. both.0) c.deref_mut.ensures.value in
    let attrs = kept.0 ∙ ap (λ both. both.1) c.deref_mut.ensures.value in
    (ap Enabled kept.1, (λ i. CfgDisabled (with_value c.in-CfgDisabled.both (cfg i, attrs i))) ∙ sym c.in-CfgDisabled.is)
