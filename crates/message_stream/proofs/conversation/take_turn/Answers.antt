use Rattle.std.proofs.Common.{rules, inr, subst}
use Rattle.std.specs.Io.Buffered.{reader_buffer}
use Rattle.message_stream.proofs.Common.{IsNext, IsReady, err_from_is_err_and, message_told, took}
use Rattle.message_stream.proofs.conversation.take_turn.Goals as goal

pub returns-in_err-answer_message-in-Message : goal.returns-in_err-answer_message-in-Message
returns-in_err-answer_message-in-Message g c count =
    let ready : IsReady g.S.Service.conduct reader_buffer c.args.service.now c.args.input.now = search rules in
    let (read, at, is) = subst (IsNext g.F.Framing.frames _ _) c.in-Message.is c.in_ok-message.ensures in
    let (texts, answered, failed) = c.in_err-answer_message-in-Message.ensures in
    let p = err_from_is_err_and c.from_residual-in_err-answer_message-in-Message.result c.from_residual-in_err-answer_message-in-Message.ensures.1 in
    rw (p.1, p.2) (inr (failed.0, (took read, c.in-Message.is_last, texts, ((c.if-is_ended.false, ready), at, message_told c.in-Message.message, is, answered), failed.1)))

pub returns-in_ok-answer_message-in-Message : goal.returns-in_ok-answer_message-in-Message
returns-in_ok-answer_message-in-Message g c count =
    let ready : IsReady g.S.Service.conduct reader_buffer c.args.service.now c.args.input.now = search rules in
    let (read, at, is) = subst (IsNext g.F.Framing.frames _ _) c.in-Message.is c.in_ok-message.ensures in
    let (texts, answered, wrote) = c.in_ok-answer_message-in-Message.ensures in
    (took read, texts, ((c.if-is_ended.false, ready), at, message_told c.in-Message.message, is, answered), wrote)
