-- what is told of the body is told of the bytes that were read so far
use Rattle.std.proofs.Common.{◌≡◌, ◌+◌, ℕ, List, length}
use Rattle.std.specs.Io.KnownBytes.{Consumes}
use Rattle.message_stream.specs.Inner.{IsBodySoFar}
use Rattle.message_stream.proofs.headers.read_body.Given as goal

abbrev pub invariant-loop-turn : goal.invariant-loop-turn
invariant-loop-turn g l = (read : List ℕ) × Consumes (g.R.Read.remaining l.initial.input) (g.R.Read.remaining l.input) read × (length read + l.left ≡ l.length) × IsBodySoFar l.length read l.body
