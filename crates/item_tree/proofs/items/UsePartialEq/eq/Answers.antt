use Rattle.std.proofs.Common.{rules}
use Rattle.item_tree.proofs.Common.{use_item_code}
use Rattle.item_tree.proofs.UseEq.{tells}
use Rattle.item_tree.proofs.items.UsePartialEq.eq.Goals as goal

pub returns-then-eq-clause-gives : goal.returns-then-eq-clause-gives
returns-then-eq-clause-gives c = tells use_item_code _ _ _ (search rules)

pub returns-else-eq-clause-gives : goal.returns-else-eq-clause-gives
returns-else-eq-clause-gives c = tells use_item_code _ _ _ (search rules)
