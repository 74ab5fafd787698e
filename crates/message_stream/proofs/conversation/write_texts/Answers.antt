use Rattle.std.proofs.Common.{string_bytes}
use Rattle.message_stream.proofs.Common.{err_from_is_err_and}
use Rattle.message_stream.proofs.FramedTexts.{framed_cut, framed_next}
use Rattle.message_stream.proofs.conversation.write_texts.Goals as goal

pub returns-in_err-write : goal.returns-in_err-write
returns-in_err-write g c =
    let p = err_from_is_err_and c.from_residual.result c.from_residual.ensures.1 in
    let failed = c.in_err-write.ensures in
    rw (p.1, p.2) (failed.0, framed_cut g.F.Framing.frames.framed string_bytes c.args.texts.now c.loop-text.text-index c.text-item.result c.text-item.is c.loop-text-test.true _ c.as_bytes.ensures.value _ _ _ c.loop-text.invariant failed.1)

pub loop-text-preserved : goal.loop-text-preserved
loop-text-preserved g c =
    framed_next g.F.Framing.frames.framed string_bytes c.args.texts.now c.loop-text.text-index c.text-item.result c.text-item.is c.loop-text-test.true _ c.as_bytes.ensures.value _ _ _ c.loop-text.invariant c.in_ok-write.ensures
