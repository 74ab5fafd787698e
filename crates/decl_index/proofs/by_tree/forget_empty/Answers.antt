use Rattle.std.proofs.Common.{None, sym}
use Rattle.decl_index.proofs.TreeChanges.{filed_still}
use Rattle.decl_index.proofs.by_tree.forget_empty.Goals as goal

pub returns-then-is_empty : goal.returns-then-is_empty
returns-then-is_empty c = filed_still c.args.trees.now c.remove.new.self (c.args.place, c.args.krate.0) None c.remove.ensures.updates.0 (sym (c.is_empty.ensures c.if-is_empty.true))
