use Rattle.std.proofs.Common.{rules}
use Rattle.itemtree_commands.proofs.BareTrees.{too_large}
use Rattle.itemtree_commands.proofs.trees.source_tree.Goals as goal

pub returns-in_err-tree-clause-refused : goal.returns-in_err-tree-clause-refused
returns-in_err-tree-clause-refused c =
    let refused = too_large c.args.krate.now c.args.skipped.now c.args.edition c.args.text.now c.in_ok-file.file c.in_err-tree.field-0.0 (search rules) (search rules) (search rules) in
    search rules
