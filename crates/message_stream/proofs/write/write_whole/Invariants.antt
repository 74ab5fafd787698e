-- the writer took what is gone from `rest`
use Rattle.std.proofs.Common.{◌≡◌, ℕ, List, ◌++◌}
use Rattle.message_stream.proofs.Common.{Appends}
use Rattle.message_stream.proofs.write.write_whole.Given as goal

abbrev pub invariant-loop-turn : goal.invariant-loop-turn
invariant-loop-turn g l = (done : List ℕ) × (l.initial.rest ≡ done ++ l.rest) × Appends (g.W.Write.contents l.initial.output) (g.W.Write.contents l.output) done
