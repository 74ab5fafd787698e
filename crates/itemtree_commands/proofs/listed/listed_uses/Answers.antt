use Rattle.std.proofs.Common.{◌≡◌, ◌∙◌, ap, subst}
use Rattle.std.proofs.lemmas.Result.{IfErr-weaker, IfOk-weaker}
use Rattle.itemtree_commands.specs.Inner.{IsClippedRefused, IsClippedUses}
use Rattle.itemtree_commands.specs.Trees.{wanted_under}
use Rattle.itemtree_commands.proofs.ListedTrees.{refused_listed}
use Rattle.itemtree_commands.proofs.ListedUses.{uses_listed}
use Rattle.itemtree_commands.proofs.listed.listed_uses.Goals as goal

pub returns-clause-uses : goal.returns-clause-uses
returns-clause-uses c =
    let o = c.args.options.now in
    let text = c.args.text.now in
    let is : c.wanted_under.result ≡ wanted_under o.skipped.items = c.wanted_under.ensures ∙ ap wanted_under c.deref.ensures.value in
    IfOk-weaker c.clipped_uses.result _ _ (λ x h. uses_listed o text x (subst (λ w. IsClippedUses w o.krate o.skipped.items o.edition.year text x) is h)) c.clipped_uses.ensures.tree

pub returns-clause-refused : goal.returns-clause-refused
returns-clause-refused c =
    let o = c.args.options.now in
    let text = c.args.text.now in
    let is : c.wanted_under.result ≡ wanted_under o.skipped.items = c.wanted_under.ensures ∙ ap wanted_under c.deref.ensures.value in
    IfErr-weaker c.clipped_uses.result _ _ (λ e h. refused_listed o.krate o.skipped.items o.edition.year text e (subst (λ w. IsClippedRefused w o.krate o.skipped.items o.edition.year text e) is h)) c.clipped_uses.ensures.refused
