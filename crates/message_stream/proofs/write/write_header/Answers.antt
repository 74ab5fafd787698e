use Rattle.message_stream.proofs.Common.{err_from_is_err_and}
use Rattle.message_stream.proofs.TextBeginnings.{begun_of_more, written_after}
use Rattle.message_stream.proofs.write.write_header.Goals as goal

pub returns-in_err-write_whole : goal.returns-in_err-write_whole
returns-in_err-write_whole g c =
    let p = err_from_is_err_and c.from_residual.result c.from_residual.ensures.1 in
    let failed = c.in_err-write_whole.ensures in
    rw (p.1, p.2) (failed.0, begun_of_more _ _ _ _ failed.1)

pub returns : goal.returns
returns g c = written_after c.write_digits.result _ _ _ _ _ c.in_ok-write_whole.ensures c.write_digits.ensures
