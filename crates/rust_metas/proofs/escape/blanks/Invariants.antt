use Rattle.std.proofs.Common.{◌≡◌, ◌+◌, length}
use Rattle.rust_metas.proofs.Common.{blanks}
use Rattle.rust_metas.proofs.escape.blanks.Given as goal

abbrev pub invariant-bytes : goal.invariant-bytes
invariant-bytes l = (l.count + blanks l.z ≡ blanks l.initial.z) × (l.count + length l.z ≡ length l.initial.z)

abbrev pub decreases-bytes : goal.decreases-bytes
decreases-bytes l = length l.z
