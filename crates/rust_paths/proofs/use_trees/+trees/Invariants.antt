use Rattle.std.proofs.Common.{◌≡◌, map, ◌+◌, ◌-◌, ◌*◌, []}
use Rattle.rust_paths.proofs.Common.{use_tree_view, is_at_end, turns_from, one, element, trees}
use Rattle.rust_paths.proofs.Trees.{with_found}
use Rattle.rust_paths.proofs.use_trees.+trees.Given as goal

abbrev pub decreases-list : goal.decreases-list
decreases-list l = 4 * l.depth

abbrev pub decreases-tree_at : goal.decreases-tree_at
decreases-tree_at l = 4 * l.depth + 1

abbrev pub decreases-element : goal.decreases-element
decreases-element l = 4 * l.depth + 2

abbrev pub decreases-trees : goal.decreases-trees
decreases-trees l = 4 * l.depth + 3

abbrev pub invariant-trees-loop-turn : goal.invariant-trees-loop-turn
invariant-trees-loop-turn l = with_found (map use_tree_view l.trees.items) l.starts.items l.too_deep (turns_from is_at_end (one (element l.depth)) (l.most - l._turn) [] l.cursor) ≡ trees (element l.depth) l.fn.cursor
