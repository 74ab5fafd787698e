use Rattle.std.proofs.Common.{◌≡◌, ◌+◌, ◌*◌, ◌++◌, map, take, sum_by, flat_map}
use Rattle.item_tree.specs.Walk.{count_at}
use Rattle.tree_walk.specs.Inner.Steps.{around_view, step_view, steps_at}
use Rattle.tree_walk.proofs.steps.+walk.Given as goal

abbrev pub decreases-push_all : goal.decreases-push_all
decreases-push_all l = 2 * sum_by (count_at l.tree.now) l.ids.now + 1

abbrev pub decreases-push_one : goal.decreases-push_one
decreases-push_one l = 2 * count_at l.tree.now l.id

abbrev pub invariant-push_all-loop-id : goal.invariant-push_all-loop-id
invariant-push_all-loop-id l = map step_view l.steps.items ≡ map step_view l.initial.steps.items ++ flat_map (steps_at l.tree (around_view l.around)) (take l.id-index l.ids)
