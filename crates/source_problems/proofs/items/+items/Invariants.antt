-- what is wrong with all is what was added, and behind it that of those that are left
use Rattle.std.proofs.Common.{◌≡◌, ◌++◌, List, drop}
use Rattle.hir_input.specs.Syntax.{ItemView, items_view}
use Rattle.source_problems.specs.Items.{in_preorder, placed_problems}
use Rattle.source_problems.proofs.items.+items.Given as goal

abbrev pub invariant-push_items-loop-item : goal.invariant-push_items-loop-item
invariant-push_items-loop-item l =
    (more : List ItemView) → l.found.problems.items ++ placed_problems (in_preorder (items_view (drop l.item-index l.items)) ++ more) l.places.left.now
    ≡ l.fn.found.problems.items ++ placed_problems (in_preorder (items_view l.items) ++ more) l.fn.places.left.now
