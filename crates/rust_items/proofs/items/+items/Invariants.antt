use Rattle.std.proofs.Common.{◌≡◌, map, ◌+◌, ◌-◌, ◌*◌}
use Rattle.rust_items.proofs.Common.{item_view, clipped_turn, log_view, finding_from, finding, is_list_end, turn}
use Rattle.rust_items.proofs.items.+items.Given as goal

abbrev pub decreases-module_inside : goal.decreases-module_inside
decreases-module_inside l = 6 * l.left

abbrev pub decreases-inside_unless : goal.decreases-inside_unless
decreases-inside_unless l = 6 * l.left + 1

abbrev pub decreases-module : goal.decreases-module
decreases-module l = 6 * l.left + 2

abbrev pub decreases-behind_front : goal.decreases-behind_front
decreases-behind_front l = 6 * l.left + 3

abbrev pub decreases-turn : goal.decreases-turn
decreases-turn l = 6 * l.left + 4

abbrev pub decreases-items : goal.decreases-items
decreases-items l = 6 * l.left + 5

abbrev pub invariant-items-loop-turn : goal.invariant-items-loop-turn
invariant-items-loop-turn l =
    finding_from (is_list_end l.is_top) (clipped_turn l.wanted (turn l.left)) (l.most - l._turn) (map item_view l.items.items) (log_view l.log) l.cursor
    ≡ finding (is_list_end l.is_top) (clipped_turn l.wanted (turn l.left)) (log_view l.fn.log) l.fn.cursor
