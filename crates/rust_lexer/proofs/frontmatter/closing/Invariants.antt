use Rattle.std.proofs.Common.{◌≡◌, ◌≤◌, ◌+◌, length}
use Rattle.rust_lexer.proofs.Common.{closing_dashes}
use Rattle.rust_lexer.proofs.frontmatter.closing.Given as goal

abbrev pub invariant-loop-z : goal.invariant-loop-z
invariant-loop-z l = (closing_dashes l.dashes l.count l.z ≡ closing_dashes l.dashes l.start l.initial.z) × (l.count + length l.z ≡ l.start + length l.initial.z) × (l.start ≤ l.count)

abbrev pub decreases-loop-z : goal.decreases-loop-z
decreases-loop-z l = length l.z
