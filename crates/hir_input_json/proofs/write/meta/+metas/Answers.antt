-- one more, and the last
use Rattle.std.proofs.Common.{rules, refl}
use Rattle.hir_input_json.proofs.Writing.Lists.{all_made, more_made}
use Rattle.hir_input_json.proofs.write.meta.+metas.Goals as goal

pub meta_values-loop-meta-preserved : goal.meta_values-loop-meta-preserved
meta_values-loop-meta-preserved t c = more_made c.loop-meta.invariant c.meta-item.result c.in_ok-meta_value.field-0 (λ x xs. refl) (search rules) (search rules) c.in_ok-push.ensures.items

pub meta_values-returns : goal.meta_values-returns
meta_values-returns t c = all_made c.loop-meta.invariant refl (search rules)
