use Rattle.std.proofs.Common.{rules}
use Rattle.itemtree_commands.proofs.TypedBodies.{same_in_body}
use Rattle.itemtree_commands.proofs.compare_trees.Goals as goal

pub returns-clause-compared : goal.returns-clause-compared
returns-clause-compared c = (c.in-Ok.before, c.in-Ok-read.after, search rules, search rules, (search rules, search rules), search rules)

pub returns-clause-typed : goal.returns-clause-typed
returns-clause-typed c =
    same_in_body c.args.options.now.krate c.args.options.now.skipped.items c.args.options.now.edition.year c.args.old.text.now c.args.new.text.now c.in-Ok.before c.in-Ok-read.after c.eq-is_same.result c.in-Ok.ensures.tree c.in-Ok-read.ensures.tree
    c.eq-is_same.ensures.decides
