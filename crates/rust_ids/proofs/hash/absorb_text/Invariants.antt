use Rattle.std.proofs.Common.{◌≡◌, length}
use Rattle.rust_ids.proofs.Common.{absorb_text, hash_start}
use Rattle.rust_ids.proofs.hash.absorb_text.Given as goal

abbrev pub invariant-loop-rest : goal.invariant-loop-rest
invariant-loop-rest l = absorb_text l.pair l.rest ≡ absorb_text hash_start l.text

abbrev pub decreases-loop-rest : goal.decreases-loop-rest
decreases-loop-rest l = length l.rest
