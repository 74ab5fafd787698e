-- one more, and the last
use Rattle.std.proofs.Common.{rules, refl}
use Rattle.hir_input_json.proofs.Writing.Lists.{all_made, more_made}
use Rattle.hir_input_json.proofs.write.extern_block.extern_item_values.Goals as goal

pub loop-item-preserved : goal.loop-item-preserved
loop-item-preserved c = more_made c.loop-item.invariant c.item-item.result c.in_ok-extern_item_value.field-0 (λ x xs. refl) (search rules) (search rules) c.in_ok-push.ensures.items

pub returns : goal.returns
returns c = all_made c.loop-item.invariant refl (search rules)
