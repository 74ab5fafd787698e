use Rattle.std.proofs.Common.{arith}
use Rattle.hir_input.proofs.Common.{common_steps}
use Rattle.hir_input.proofs.ids.FileAstIdDisplay.fmt.Goals as goal

pub returns : goal.returns
returns g c = grind (arith, common_steps)
