-- no byte so far is a line feed
use Rattle.std.proofs.Common.{take}
use Rattle.message_stream.proofs.Common.{HasNoFeed}
use Rattle.message_stream.proofs.lines.first_part.Given as goal

abbrev pub invariant-loop-before : goal.invariant-loop-before
invariant-loop-before l = HasNoFeed (take l.before l.shown)
