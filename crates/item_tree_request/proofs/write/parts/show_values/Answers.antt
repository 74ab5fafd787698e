-- one more, and the last
use Rattle.std.proofs.Common.{rules, refl}
use Rattle.hir_input_json.proofs.Writing.Lists.{all_made, more_made}
use Rattle.item_tree_request.proofs.write.parts.show_values.Goals as goal

pub loop-show-preserved : goal.loop-show-preserved
loop-show-preserved c = more_made c.loop-show.invariant _ c.in_ok-show_value.field-0 (λ x xs. refl) (search rules) c.in_ok-show_value.ensures c.in_ok-push.ensures.items

pub returns : goal.returns
returns c = all_made c.loop-show.invariant refl (search rules)
