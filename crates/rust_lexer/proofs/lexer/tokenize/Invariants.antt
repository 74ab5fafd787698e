use Rattle.std.proofs.Common.{◌≡◌, ◌++◌, length}
use Rattle.rust_lexer.proofs.Common.{tokens}
use Rattle.rust_lexer.proofs.lexer.tokenize.Given as goal

abbrev pub invariant-loop-token : goal.invariant-loop-token
invariant-loop-token l = l.tokens.items ++ l.lexer ≡ tokens l.text

abbrev pub decreases-loop-token : goal.decreases-loop-token
decreases-loop-token l = length l.lexer
