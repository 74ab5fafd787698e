use Rattle.std.proofs.Common.{◌≡◌, ◌-◌, ◌∙◌, Some, rules, sym}
use Rattle.source_listing.specs.Views.{placed_trees_view}
use Rattle.source_imports.specs.Removals.{own_removal}
use Rattle.source_listing.specs.Uses.{tree_start}
use Rattle.source_imports.proofs.TreeEnds.{removal_own}
use Rattle.source_imports.proofs.removals.removal.Goals as goal

pub returns-in-Some : goal.returns-in-Some
returns-in-Some c =
    let text = c.args.text.now in
    let t = placed_trees_view c.args.trees in
    let left = c.loop-left.left in
    let end = t.place.range.end in
    let places : own_removal text c.start-before.result c.start.result end ≡ own_removal text (tree_start (left - 1) t) (tree_start left t) end = λ i. own_removal text (c.start-before.ensures i) (c.start.ensures i) end in
    let own : own_removal text (tree_start (left - 1) t) (tree_start left t) end ≡ Some c.in-Some.own = sym places ∙ sym c.own_removal.ensures ∙ c.in-Some.is in
    sym (removal_own text t left c.in-Some.own (search rules) own) ∙ c.loop-left.invariant
