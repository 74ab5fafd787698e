-- one more, and the last
use Rattle.std.proofs.Common.{rules, refl}
use Rattle.hir_input_json.proofs.Writing.Lists.{all_made, more_made}
use Rattle.item_tree_request.proofs.write.parts.name_values.Goals as goal

pub loop-name-preserved : goal.loop-name-preserved
loop-name-preserved c = more_made c.loop-name.invariant c.name-item.result c.in_ok-name_value.field-0 (λ x xs. refl) (search rules) (search rules) c.in_ok-push.ensures.items

pub returns : goal.returns
returns c = all_made c.loop-name.invariant refl (search rules)
