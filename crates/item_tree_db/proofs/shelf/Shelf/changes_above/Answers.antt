use Rattle.std.proofs.Common.{ap, sym, subst, ◌∙◌}
use Rattle.item_tree_db.proofs.Common.{IsInOrder, Places, HasFew, all_changes, late_changes, over_all}
use Rattle.item_tree_db.proofs.Shelves.{few_over_all}
use Rattle.item_tree_db.proofs.shelf.Shelf.changes_above.Goals as goal

pub new-requires : goal.new-requires
new-requires c =
    let few = few_over_all c.args.self.now (subst IsInOrder c.self.view_is c.iter.ensures.ordered) c.requires in
    subst HasFew (sym (ap over_all (c.iter.ensures.rest ∙ c.self.view_is))) few

pub returns-clause-value : goal.returns-clause-value
returns-clause-value c = c.new.ensures ∙ ap (λ (l : Places). late_changes c.args.above (all_changes (over_all l))) (c.iter.ensures.rest ∙ c.self.view_is)

pub returns-clause-in_order : goal.returns-clause-in_order
returns-clause-in_order c = subst IsInOrder c.self.view_is c.iter.ensures.ordered
