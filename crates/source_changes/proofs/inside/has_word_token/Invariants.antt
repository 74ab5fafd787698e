use Rattle.std.proofs.Common.{◌≡◌, length}
use Rattle.rust_lexer.specs.Tokens.{tokens}
use Rattle.source_changes.specs.Bodies.{has_word}
use Rattle.source_changes.proofs.inside.has_word_token.Given as goal

abbrev pub invariant-tokens : goal.invariant-tokens
invariant-tokens l = has_word l.lexer l.wanted ≡ has_word (tokens l.text) l.wanted

abbrev pub decreases-tokens : goal.decreases-tokens
decreases-tokens l = length l.lexer
