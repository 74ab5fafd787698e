-- one more, and the last
use Rattle.std.proofs.Common.{rules, refl}
use Rattle.hir_input_json.proofs.Writing.Lists.{all_made, more_made}
use Rattle.hir_input_json.proofs.write.kinds.field_values.Goals as goal

pub loop-field-preserved : goal.loop-field-preserved
loop-field-preserved c = more_made c.loop-field.invariant c.field-item.result c.in_ok-visibility_or_null.field-0 (λ x xs. refl) (search rules) (search rules) c.in_ok-push.ensures.items

pub returns : goal.returns
returns c = all_made c.loop-field.invariant refl (search rules)
