use Rattle.std.proofs.Common.{Ok, arith, inl, inr, refl, subst}
use Rattle.std.specs.Io.Buffered.{reader_buffer, reader_remaining}
use Rattle.message_stream.proofs.Common.{HasTurned, err_from_is_err_and, intake_at}
use Rattle.message_stream.proofs.Conversations.{told_more}
use Rattle.message_stream.proofs.conversation.serve.Goals as goal

pub returns-in_err-ended : goal.returns-in_err-ended
returns-in_err-ended g c =
    let p = err_from_is_err_and c.from_residual.result c.from_residual.ensures.1 in
    rw (p.1, p.2) (c.loop-turn._turn, c.loop-turn.service, intake_at c.loop-turn.input c.loop-turn.is_ended, g.W.Write.contents c.loop-turn.output, c.loop-turn.invariant, c.in_err-ended.ensures c.loop-turn._turn)

pub returns-in-None : goal.returns-in-None
returns-in-None g c =
    let ended = subst (λ o. HasTurned g.F.Framing.frames g.S.Service.conduct (reader_remaining g.R.Read.remaining) reader_buffer c.loop-turn._turn (Ok o) c.loop-turn.service c.take_turn.new.service c.loop-turn.is_ended c.loop-turn.input c.take_turn.new.input (g.W.Write.contents c.loop-turn.output) (g.W.Write.contents c.take_turn.new.output)) c.in-None.is (c.in_ok-ended.ensures c.loop-turn._turn) in
    (c.loop-turn._turn, c.loop-turn.service, intake_at c.loop-turn.input c.loop-turn.is_ended, g.W.Write.contents c.loop-turn.output, c.loop-turn.invariant, ended)

pub loop-turn-preserved : goal.loop-turn-preserved
loop-turn-preserved g c =
    let (turn, texts, step, wrote) = subst (λ o. HasTurned g.F.Framing.frames g.S.Service.conduct (reader_remaining g.R.Read.remaining) reader_buffer c.loop-turn._turn (Ok o) c.loop-turn.service c.take_turn.new.service c.loop-turn.is_ended c.loop-turn.input c.take_turn.new.input (g.W.Write.contents c.loop-turn.output) (g.W.Write.contents c.take_turn.new.output)) c.in-Some.is (c.in_ok-ended.ensures c.loop-turn._turn) in
    told_more g.F.Framing.frames g.S.Service.conduct (reader_remaining g.R.Read.remaining) reader_buffer c.loop-turn._turn _ _ _ _ _ _ _ _ _ turn texts c.loop-turn.invariant step wrote

pub returns : goal.returns
returns g c = (c.loop-turn._turn, c.loop-turn.service, intake_at c.loop-turn.input c.loop-turn.is_ended, g.W.Write.contents c.loop-turn.output, c.loop-turn.invariant, inl (refl, refl, inr (omega (arith, c.loop-turn-test.false, c.loop-turn.auto._turn-end), refl, refl)))
