use Rattle.std.proofs.Common.{arith}
use Rattle.item_tree.proofs.Common.{common_steps}
use Rattle.item_tree.proofs.pretty.Printer.push_enabled.Goals as goal

pub loop-attr-init : goal.loop-attr-init
loop-attr-init c = grind (arith, common_steps)

pub loop-attr-preserved : goal.loop-attr-preserved
loop-attr-preserved c = grind (arith, common_steps)

pub returns : goal.returns
returns c = grind (arith, common_steps)
