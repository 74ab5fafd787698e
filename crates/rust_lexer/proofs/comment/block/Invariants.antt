use Rattle.std.proofs.Common.{◌≡◌, ◌≤◌, ◌+◌, length, false}
use Rattle.rust_lexer.proofs.Common.{block}
use Rattle.rust_lexer.proofs.comment.block.Given as goal

abbrev pub invariant-bytes : goal.invariant-bytes
invariant-bytes l = (block l.is_second l.depth l.count l.z ≡ block false 0 l.start l.initial.z) × (l.count + length l.z ≡ l.start + length l.initial.z) × (l.depth ≤ l.count)

abbrev pub decreases-bytes : goal.decreases-bytes
decreases-bytes l = length l.z
