use Rattle.std.proofs.Common.{◌≡◌, length}
use Rattle.rust_metas.proofs.Common.{prepend, raw_from}
use Rattle.rust_metas.proofs.string.raw_from.Given as goal

abbrev pub invariant-bytes : goal.invariant-bytes
invariant-bytes l = prepend l.out.items (raw_from l.count l.z) ≡ raw_from l.count l.initial.z

abbrev pub decreases-bytes : goal.decreases-bytes
decreases-bytes l = length l.z
