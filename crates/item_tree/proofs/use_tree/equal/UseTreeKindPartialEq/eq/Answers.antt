use Rattle.item_tree.proofs.Common.{tree_code}
use Rattle.item_tree.proofs.UseEq.{tells}
use Rattle.item_tree.proofs.use_tree.equal.UseTreeKindPartialEq.eq.Goals as goal

pub returns-clause-gives : goal.returns-clause-gives
returns-clause-gives c = tells tree_code _ _ _ c.same_kind.ensures
