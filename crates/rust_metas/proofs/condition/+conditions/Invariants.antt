use Rattle.std.proofs.Common.{◌≡◌, map, ◌+◌, ◌-◌, ◌*◌}
use Rattle.rust_metas.proofs.Common.{cfg_view, is_at_end, elements, one, reads, turns_from, condition}
use Rattle.rust_metas.proofs.condition.+conditions.Given as goal

abbrev pub decreases-conditions : goal.decreases-conditions
decreases-conditions l = 2 * l.depth

abbrev pub decreases-condition : goal.decreases-condition
decreases-condition l = 2 * l.depth + 1

abbrev pub invariant-conditions-loop-turn : goal.invariant-conditions-loop-turn
invariant-conditions-loop-turn l = turns_from is_at_end (one (reads (condition (l.depth - 1)))) (l.most - l._turn) (map cfg_view l.conditions.items) l.cursor ≡ elements (one (reads (condition (l.depth - 1)))) l.fn.cursor
