use Rattle.std.proofs.Common.{◌≡◌, ◌∙◌, ap, subst}
use Rattle.std.proofs.lemmas.Result.{IfErr-weaker, IfOk-weaker}
use Rattle.itemtree_commands.specs.Inner.{IsClippedRefused, IsClippedTree}
use Rattle.itemtree_commands.specs.Trees.{wanted_under}
use Rattle.itemtree_commands.proofs.ListedTrees.{refused_listed, tree_listed}
use Rattle.itemtree_commands.proofs.listed.listed_tree.Goals as goal

pub returns-clause-tree : goal.returns-clause-tree
returns-clause-tree c =
    let o = c.args.options.now in
    let text = c.args.text.now in
    let is : c.wanted_under.result ≡ wanted_under o.skipped.items = c.wanted_under.ensures ∙ ap wanted_under c.deref.ensures.value in
    IfOk-weaker c.clipped_tree.result _ _ (λ x h. tree_listed o.krate o.skipped.items o.edition.year text x (subst (λ w. IsClippedTree w o.krate o.skipped.items o.edition.year text x) is h)) c.clipped_tree.ensures.tree

pub returns-clause-refused : goal.returns-clause-refused
returns-clause-refused c =
    let o = c.args.options.now in
    let text = c.args.text.now in
    let is : c.wanted_under.result ≡ wanted_under o.skipped.items = c.wanted_under.ensures ∙ ap wanted_under c.deref.ensures.value in
    IfErr-weaker c.clipped_tree.result _ _ (λ e h. refused_listed o.krate o.skipped.items o.edition.year text e (subst (λ w. IsClippedRefused w o.krate o.skipped.items o.edition.year text e) is h)) c.clipped_tree.ensures.refused
