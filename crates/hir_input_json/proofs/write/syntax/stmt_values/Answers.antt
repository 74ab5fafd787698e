-- one more, and the last
use Rattle.std.proofs.Common.{rules, refl}
use Rattle.hir_input_json.proofs.Writing.Lists.{all_made, more_made}
use Rattle.hir_input_json.proofs.write.syntax.stmt_values.Goals as goal

pub loop-stmt-preserved : goal.loop-stmt-preserved
loop-stmt-preserved c = more_made c.loop-stmt.invariant c.stmt-item.result c.in_ok-stmt_value.field-0 (λ x xs. refl) (search rules) (search rules) c.in_ok-push.ensures.items

pub returns : goal.returns
returns c = all_made c.loop-stmt.invariant refl (search rules)
