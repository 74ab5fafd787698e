use Rattle.std.proofs.Common.{◌≡◌, length}
use Rattle.rust_lexer.specs.Tokens.{tokens}
use Rattle.source_changes.specs.Outside.{first_kept}
use Rattle.source_changes.proofs.strays.first_kept.Given as goal

abbrev pub invariant-tokens : goal.invariant-tokens
invariant-tokens l = first_kept l.left l.lexer ≡ first_kept l.holes (tokens l.text)

abbrev pub decreases-tokens : goal.decreases-tokens
decreases-tokens l = length l.lexer
