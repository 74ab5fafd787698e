use Rattle.std.proofs.Common.{[], refl, sym, append-nil}
use Rattle.message_stream.proofs.Common.{Appends-kept, Appends-trans, err_from_is_err_and}
use Rattle.message_stream.specs.Headers.{with_header}
use Rattle.message_stream.proofs.TextBeginnings.{begun_after, begun_of_more}
use Rattle.message_stream.proofs.write.write_headed.Goals as goal

pub returns-in_err-write_header : goal.returns-in_err-write_header
returns-in_err-write_header g c =
    let p = err_from_is_err_and c.from_residual.result c.from_residual.ensures.1 in
    let failed = c.in_err-write_header.ensures in
    rw (p.1, p.2) (failed.0, begun_of_more _ _ _ _ failed.1)

pub returns-in_err-write_whole : goal.returns-in_err-write_whole
returns-in_err-write_whole g c =
    let p = err_from_is_err_and c.from_residual-in_err-write_whole.result c.from_residual-in_err-write_whole.ensures.1 in
    let failed = c.in_err-write_whole.ensures in
    rw (p.1, p.2) (failed.0, begun_after _ _ _ _ _ c.in_ok-write_header.ensures failed.1)

pub returns-then-is_err : goal.returns-then-is_err
returns-then-is_err g c =
    let all = with_header c.args.text.now in
    (refl, (all, [], sym (append-nil all), Appends-kept _ _ _ all (Appends-trans _ _ _ _ _ c.in_ok-write_header.ensures c.in_ok-write_whole.ensures) c.flush.ensures.bytes))
