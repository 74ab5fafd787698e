use Rattle.std.proofs.Common.{sym, ◌∙◌}
use Rattle.source_rows.proofs.Common.{type_read}
use Rattle.source_rows.proofs.ImplHeaders.{type_turn}
use Rattle.source_rows.proofs.types.type_read.Goals as goal

pub loop-turn-preserved : goal.loop-turn-preserved
loop-turn-preserved c =
    type_turn c.most_turns-most.result c.loop-turn._turn c.loop-turn.read c.take_step.new.read c.loop-turn.cursor c.take_step.new.cursor (type_read c.args.cursor.now)
    c.loop-turn-test.true (sym c.is_type_over.ensures ∙ c.if-is_type_over.false) c.in_ok-take_step.ensures c.loop-turn.invariant
