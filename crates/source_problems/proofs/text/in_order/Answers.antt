use Rattle.std.proofs.Common.{arith}
use Rattle.std.proofs.lemmas.Grind.{common_steps}
use Rattle.source_problems.proofs.text.in_order.Goals as goal

pub loop-problem-preserved : goal.loop-problem-preserved
loop-problem-preserved c = grind (arith, common_steps)
