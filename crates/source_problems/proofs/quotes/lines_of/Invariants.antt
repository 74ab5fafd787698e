use Rattle.std.proofs.Common.{◌≡◌, ◌<◌, ◌+◌, ◌^◌, [], ◌++◌, ◌&&◌, length}
use Rattle.rust_lexer.specs.Tokens.{tokens}
use Rattle.rust_mended.specs.Texts.{tokens_match}
use Rattle.source_problems.specs.Quotes.{problems_from, problems_in}
use Rattle.source_problems.proofs.quotes.lines_of.Given as goal

abbrev pub invariant-tokens : goal.invariant-tokens
invariant-tokens l = record {
  problems : l.problems.items ++ problems_from l.skips l.around l.lexer ≡ problems_in l.skips (tokens l.text);
  matched : (l.is_matched && tokens_match l.lexer l.opened.items) ≡ tokens_match (tokens l.text) [];
  few : l.around.depth + length l.lexer < 2 ^ 64;
}

abbrev pub decreases-tokens : goal.decreases-tokens
decreases-tokens l = length l.lexer
