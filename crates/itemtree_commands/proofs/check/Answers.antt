use Rattle.std.proofs.Common.{rules}
use Rattle.itemtree_commands.proofs.check.Goals as goal

pub returns-clause-checked : goal.returns-clause-checked
returns-clause-checked c = let (file, is_read, are) = c.in_ok-problems.ensures.problems in (file, is_read, search rules, (search rules, search rules))
