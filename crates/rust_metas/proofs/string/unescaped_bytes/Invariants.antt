use Rattle.std.proofs.Common.{◌≡◌, length}
use Rattle.rust_metas.proofs.Common.{prepend, unescaped_bytes}
use Rattle.rust_metas.proofs.string.unescaped_bytes.Given as goal

abbrev pub invariant-bytes : goal.invariant-bytes
invariant-bytes l = prepend l.out.items (unescaped_bytes 0 l.z) ≡ unescaped_bytes 0 l.initial.z

abbrev pub decreases-bytes : goal.decreases-bytes
decreases-bytes l = length l.z
