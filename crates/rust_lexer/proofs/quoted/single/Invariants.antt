use Rattle.std.proofs.Common.{◌≡◌, ◌+◌, length, false}
use Rattle.rust_lexer.proofs.Common.{single}
use Rattle.rust_lexer.proofs.quoted.single.Given as goal

abbrev pub invariant-loop-z : goal.invariant-loop-z
invariant-loop-z l = (single l.is_escaped l.count l.z ≡ single false l.start l.initial.z) × (l.count + length l.z ≡ l.start + length l.initial.z)

abbrev pub decreases-loop-z : goal.decreases-loop-z
decreases-loop-z l = length l.z
