use Rattle.std.proofs.Common.{◌≡◌, false, length}
use Rattle.rust_lexer.specs.Tokens.{tokens}
use Rattle.source_changes.specs.Bodies.{has_const_fn}
use Rattle.source_changes.proofs.inside.has_const_fn_tokens.Given as goal

abbrev pub invariant-tokens : goal.invariant-tokens
invariant-tokens l = has_const_fn l.has_const l.lexer ≡ has_const_fn false (tokens l.text)

abbrev pub decreases-tokens : goal.decreases-tokens
decreases-tokens l = length l.lexer
