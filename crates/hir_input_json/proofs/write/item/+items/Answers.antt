-- one more, and the last
use Rattle.std.proofs.Common.{rules, refl}
use Rattle.hir_input_json.proofs.Writing.Lists.{all_made, more_made}
use Rattle.hir_input_json.proofs.write.item.+items.Goals as goal

pub item_values-loop-item-preserved : goal.item_values-loop-item-preserved
item_values-loop-item-preserved t c = more_made c.loop-item.invariant c.item-item.result c.in_ok-item_value.field-0 (λ x xs. refl) (search rules) (search rules) c.in_ok-push.ensures.items

pub item_values-returns : goal.item_values-returns
item_values-returns t c = all_made c.loop-item.invariant refl (search rules)
