use Rattle.std.proofs.Common.{◌≡◌, ◌+◌, length}
use Rattle.rust_metas.proofs.Common.{hashes}
use Rattle.rust_metas.proofs.string.hashes.Given as goal

abbrev pub invariant-bytes : goal.invariant-bytes
invariant-bytes l = (l.count + hashes l.z ≡ hashes l.initial.z) × (l.count + length l.z ≡ length l.initial.z)

abbrev pub decreases-bytes : goal.decreases-bytes
decreases-bytes l = length l.z
