use Rattle.std.proofs.Common.{◌≡◌, map, ◌-◌, false}
use Rattle.rust_items.proofs.Common.{extern_item_view, clipped_turn, log_view, finding_from, finding, is_list_end, extern_turn}
use Rattle.rust_items.proofs.externs.extern_items.Given as goal

abbrev pub invariant-loop-turn : goal.invariant-loop-turn
invariant-loop-turn l =
    finding_from (is_list_end false) (clipped_turn l.wanted (extern_turn l.depth)) (l.most - l._turn) (map extern_item_view l.items.items) (log_view l.log) l.cursor
    ≡ finding (is_list_end false) (clipped_turn l.wanted (extern_turn l.depth)) (log_view l.fn.log) l.fn.cursor
