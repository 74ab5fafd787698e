use Rattle.std.proofs.Common.{arith}
use Rattle.item_tree.proofs.Common.{common_steps, elements}
use Rattle.item_tree.proofs.lower.lower_top_attrs.Goals as goal

pub returns-in-CfgDisabled-clause-fits : goal.returns-in-CfgDisabled-clause-fits
returns-in-CfgDisabled-clause-fits c = grind (arith, common_steps)

pub returns-in-CfgDisabled-clause-value : goal.returns-in-CfgDisabled-clause-value
returns-in-CfgDisabled-clause-value c = grind (arith, common_steps)

pub returns-in_err-merge-in-Enabled-clause-fault : goal.returns-in_err-merge-in-Enabled-clause-fault
returns-in_err-merge-in-Enabled-clause-fault c = grind (arith, elements)

pub returns-in_err-of_crate-clause-fault : goal.returns-in_err-of_crate-clause-fault
returns-in_err-of_crate-clause-fault c = grind (arith, common_steps)

pub returns-in_err-own-in-Enabled-clause-fault : goal.returns-in_err-own-in-Enabled-clause-fault
returns-in_err-own-in-Enabled-clause-fault c = grind (arith, common_steps)

pub returns-in_ok-merge-in-Enabled-clause-fits : goal.returns-in_ok-merge-in-Enabled-clause-fits
returns-in_ok-merge-in-Enabled-clause-fits c = grind (arith, common_steps)

pub returns-in_ok-merge-in-Enabled-clause-value : goal.returns-in_ok-merge-in-Enabled-clause-value
returns-in_ok-merge-in-Enabled-clause-value c = grind (arith, common_steps)

pub returns-then-not-is_root-clause-fault : goal.returns-then-not-is_root-clause-fault
returns-then-not-is_root-clause-fault c = grind (arith, common_steps)

pub returns-then-not-is_root-clause-fits : goal.returns-then-not-is_root-clause-fits
returns-then-not-is_root-clause-fits c = grind (arith, common_steps)

pub returns-then-not-is_root-clause-value : goal.returns-then-not-is_root-clause-value
returns-then-not-is_root-clause-value c = grind (arith, common_steps)
