use Rattle.std.proofs.Common.{map, sym, ◌∙◌, false, option_map}
use Rattle.rust_items.proofs.Common.{extern_item_view, clipped_turn, log_view, finding, is_list_end, extern_turn}
use Rattle.rust_items.proofs.Steps.{finding_more}
use Rattle.rust_cursor.proofs.PushedLists.{pushed_view}
use Rattle.rust_items.proofs.externs.extern_items.Goals as goal

pub loop-turn-preserved : goal.loop-turn-preserved
loop-turn-preserved c =
    finding_more (is_list_end false) (clipped_turn c.args.wanted (extern_turn c.args.depth)) c.most_turns-most.result c.loop-turn._turn c.last_end-past.result (map extern_item_view c.loop-turn.items.items) (map extern_item_view c.push_some.new.list.items)
    (option_map extern_item_view c.in_ok-item.item) (log_view c.loop-turn.log) (log_view c.extern_turn.new.log) c.loop-turn.cursor c.extern_turn.new.cursor c.pass_beyond.new.self
    (finding (is_list_end false) (clipped_turn c.args.wanted (extern_turn c.args.depth)) (log_view c.args.log.now) c.args.cursor.now)
    c.loop-turn-test.true (sym c.is_list_end.ensures ∙ c.if-is_list_end.false) c.in_ok-item.ensures c.last_end-past.ensures c.pass_beyond.ensures (pushed_view extern_item_view c.loop-turn.items.items c.push_some.new.list.items c.in_ok-item.item c.in_ok-push_some.ensures) c.loop-turn.invariant
