use Rattle.message_stream.proofs.Common.{err_from_is_err_and}
use Rattle.message_stream.proofs.HeaderParts.{body_fault, body_more}
use Rattle.message_stream.proofs.headers.read_body.Goals as goal

pub returns-in_err-longer : goal.returns-in_err-longer
returns-in_err-longer g c =
    let (read, first, sum, so_far) = c.loop-turn.invariant in
    let p = err_from_is_err_and c.from_residual.result c.from_residual.ensures.1 in
    rw (p.1, p.2) (body_fault _ _ _ _ _ _ read first sum c.in_err-longer.ensures)

pub loop-turn-preserved : goal.loop-turn-preserved
loop-turn-preserved g c =
    let (read, first, sum, so_far) = c.loop-turn.invariant in
    body_more _ _ _ _ _ _ _ _ read first sum so_far c.in_ok-longer.ensures
