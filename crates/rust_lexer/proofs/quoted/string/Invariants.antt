use Rattle.std.proofs.Common.{◌≡◌, ◌+◌, length, false}
use Rattle.rust_lexer.proofs.Common.{string}
use Rattle.rust_lexer.proofs.quoted.string.Given as goal

abbrev pub invariant-loop-z : goal.invariant-loop-z
invariant-loop-z l = (string l.is_escaped l.count l.z ≡ string false l.start l.initial.z) × (l.count + length l.z ≡ l.start + length l.initial.z)

abbrev pub decreases-loop-z : goal.decreases-loop-z
decreases-loop-z l = length l.z
