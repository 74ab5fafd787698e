use Rattle.std.proofs.Common.{arith}
use Rattle.item_tree.proofs.Common.{common_steps}
use Rattle.item_tree.proofs.Arena.{meet_distinct}
use Rattle.item_tree.proofs.VisibilityEq.{any_raw}
use Rattle.item_tree.proofs.lower.constructor.select_deciding.Goals as goal

pub loop-visibility-init : goal.loop-visibility-init
loop-visibility-init c = grind (arith, meet_distinct, any_raw)

pub loop-visibility-preserved : goal.loop-visibility-preserved
loop-visibility-preserved c = grind (arith, meet_distinct, any_raw)

pub loop-visibility-preserved-in-PubCrate : goal.loop-visibility-preserved-in-PubCrate
loop-visibility-preserved-in-PubCrate c = grind (arith, meet_distinct, any_raw)

pub loop-visibility-preserved-in-Public : goal.loop-visibility-preserved-in-Public
loop-visibility-preserved-in-Public c = grind (arith, meet_distinct, any_raw)

pub returns : goal.returns
returns c = grind (arith, common_steps)

pub returns-in-PubSelf : goal.returns-in-PubSelf
returns-in-PubSelf c = grind (arith, meet_distinct, any_raw)

pub returns-then-in_crate : goal.returns-then-in_crate
returns-then-in_crate c = grind (arith, common_steps)

pub returns-then-not-is_empty : goal.returns-then-not-is_empty
returns-then-not-is_empty c = grind (arith, common_steps)
