use Rattle.std.proofs.Common.{map, sym, ◌∙◌, option_map}
use Rattle.rust_items.proofs.Common.{item_view, clipped_turn, log_view, finding, is_list_end, turn}
use Rattle.rust_items.proofs.Steps.{finding_more}
use Rattle.rust_cursor.proofs.PushedLists.{pushed_view}
use Rattle.rust_items.proofs.items.+items.Goals as goal

pub items-loop-turn-preserved : goal.items-loop-turn-preserved
items-loop-turn-preserved t c =
    finding_more (is_list_end c.args.is_top) (clipped_turn c.args.wanted (turn c.args.left)) c.most_turns-most.result c.loop-turn._turn c.last_end-past.result (map item_view c.loop-turn.items.items) (map item_view c.push_some.new.list.items)
    (option_map item_view c.in_ok-item.item) (log_view c.loop-turn.log) (log_view c.turn.new.log) c.loop-turn.cursor c.turn.new.cursor c.pass_beyond.new.self
    (finding (is_list_end c.args.is_top) (clipped_turn c.args.wanted (turn c.args.left)) (log_view c.args.log.now) c.args.cursor.now)
    c.loop-turn-test.true (sym c.is_list_end.ensures ∙ c.if-is_list_end.false) c.in_ok-item.ensures c.last_end-past.ensures c.pass_beyond.ensures (pushed_view item_view c.loop-turn.items.items c.push_some.new.list.items c.in_ok-item.item c.in_ok-push_some.ensures) c.loop-turn.invariant
