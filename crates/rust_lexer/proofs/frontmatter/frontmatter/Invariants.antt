use Rattle.std.proofs.Common.{◌≡◌, ◌+◌, length}
use Rattle.rust_lexer.proofs.Common.{frontmatter}
use Rattle.rust_lexer.proofs.frontmatter.frontmatter.Given as goal

abbrev pub invariant-loop-z : goal.invariant-loop-z
invariant-loop-z l = (frontmatter l.count l.z ≡ frontmatter 0 l.initial.z) × (l.count + length l.z ≡ length l.initial.z)

abbrev pub decreases-loop-z : goal.decreases-loop-z
decreases-loop-z l = length l.z
