-- the writer took the texts so far
use Rattle.std.proofs.Common.{flat_map, map, take, string_bytes}
use Rattle.message_stream.proofs.Common.{Appends}
use Rattle.message_stream.proofs.conversation.write_texts.Given as goal

abbrev pub invariant-loop-text : goal.invariant-loop-text
invariant-loop-text g l = Appends (g.W.Write.contents l.initial.output) (g.W.Write.contents l.output) (flat_map g.F.Framing.frames.framed (map string_bytes (take l.text-index l.texts)))
