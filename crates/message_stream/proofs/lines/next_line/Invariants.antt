-- what is told of the line is told of the bytes that were read so far
use Rattle.std.proofs.Common.{ℕ, List}
use Rattle.message_stream.proofs.Common.{Consumes, HasNoFeed, IsToldOf, message_told}
use Rattle.message_stream.proofs.lines.next_line.Given as goal

abbrev pub invariant-loop-turn : goal.invariant-loop-turn
invariant-loop-turn g l = (read : List ℕ) × Consumes (g.R.Read.remaining l.initial.input) (g.R.Read.remaining l.input) read × HasNoFeed read × IsToldOf read (message_told l.line)
