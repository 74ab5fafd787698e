-- the bytes of the header so far were read, and no header is among them
use Rattle.std.specs.Io.KnownBytes.{Consumes}
use Rattle.httparse.specs.Grammar.{HasNoSection}
use Rattle.message_stream.proofs.headers.read_header.Given as goal

abbrev pub invariant-loop-turn : goal.invariant-loop-turn
invariant-loop-turn g l = Consumes (g.R.Read.remaining l.initial.input) (g.R.Read.remaining l.input) l.header.items × HasNoSection l.header.items
