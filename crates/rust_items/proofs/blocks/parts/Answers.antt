use Rattle.std.proofs.Common.{sym, ◌∙◌}
use Rattle.rust_items.proofs.Common.{log_view, parts, body_view, block_part_view}
use Rattle.rust_items.proofs.Parts.{parts_more}
use Rattle.rust_items.proofs.blocks.parts.Goals as goal

pub loop-turn-preserved : goal.loop-turn-preserved
loop-turn-preserved c =
    parts_more c.args.is_top c.most_turns-most.result c.loop-turn._turn c.last_end-past.result (body_view c.loop-turn.body) (body_view c.push_part.new.body)
    (block_part_view c.in_ok-part.part) (log_view c.loop-turn.log) (log_view c.take_part.new.log) c.loop-turn.cursor c.take_part.new.cursor c.pass_beyond.new.self
    (parts c.args.is_top (log_view c.args.log.now) c.args.cursor.now)
    c.loop-turn-test.true (sym c.is_list_end.ensures ∙ c.if-is_list_end.false) c.in_ok-part.ensures c.last_end-past.ensures c.pass_beyond.ensures c.in_ok-push_part.ensures c.loop-turn.invariant
