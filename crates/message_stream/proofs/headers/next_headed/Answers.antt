use Rattle.std.proofs.Common.{subst}
use Rattle.message_stream.proofs.Common.{err_from_is_err_and}
use Rattle.message_stream.specs.Inner.{IsHead}
use Rattle.message_stream.proofs.HeaderParts.{message_fault, message_of}
use Rattle.message_stream.proofs.headers.next_headed.Goals as goal

pub returns-in_err-message-in-Length : goal.returns-in_err-message-in-Length
returns-in_err-message-in-Length g c =
    let (header, first, is) = subst (IsHead _ _) c.in-Length.is c.in_ok-length.ensures in
    let p = err_from_is_err_and c.from_residual-in_err-message-in-Length.result c.from_residual-in_err-message-in-Length.ensures.1 in
    rw (p.1, p.2) (message_fault _ _ _ _ _ header first is c.in_err-message-in-Length.ensures)

pub returns-in_ok-message-in-Length : goal.returns-in_ok-message-in-Length
returns-in_ok-message-in-Length g c =
    let (header, first, is) = subst (IsHead _ _) c.in-Length.is c.in_ok-length.ensures in
    let (body, then, long, so_far) = c.in_ok-message-in-Length.ensures in
    message_of _ _ _ _ _ header body first is then long so_far
