use Rattle.std.proofs.lemmas.Result.{IfErr-weaker, IfOk-weaker}
use Rattle.itemtree_commands.proofs.Refusals.{refused_short}
use Rattle.itemtree_commands.proofs.RowTrees.{rows_kept}
use Rattle.itemtree_commands.specs.Inner.{row_wanted}
use Rattle.itemtree_commands.proofs.listed.clipped_rows.Goals as goal

pub returns-clause-tree : goal.returns-clause-tree
returns-clause-tree c =
    let o = c.args.options.now in
    IfOk-weaker c.clipped_tree.result _ _ (λ x h. rows_kept o.krate o.skipped.items o.edition.year c.args.text.now x h) c.clipped_tree.ensures.tree

pub returns-clause-no_memory : goal.returns-clause-no_memory
returns-clause-no_memory c =
    let o = c.args.options.now in
    IfErr-weaker c.clipped_tree.result _ _ (λ e h. refused_short row_wanted o.krate o.skipped.items o.edition.year c.args.text.now e h) c.clipped_tree.ensures.refused
