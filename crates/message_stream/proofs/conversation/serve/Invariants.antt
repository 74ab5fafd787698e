-- so many turns were made, and all that they told was written
use Rattle.std.proofs.Common.{false}
use Rattle.std.specs.Io.Buffered.{reader_buffer, reader_remaining}
use Rattle.message_stream.proofs.Common.{HasTold, intake_at}
use Rattle.message_stream.proofs.conversation.serve.Given as goal

abbrev pub invariant-loop-turn : goal.invariant-loop-turn
invariant-loop-turn g l = HasTold g.F.Framing.frames g.S.Service.conduct (reader_remaining g.R.Read.remaining) reader_buffer l._turn l.initial.service l.service (intake_at l.initial.input false) (intake_at l.input l.is_ended) (g.W.Write.contents l.initial.output) (g.W.Write.contents l.output)
