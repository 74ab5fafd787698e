use Rattle.std.proofs.Common.{◌≡◌, ◌+◌, length, IsUtf8}
use Rattle.rust_lexer.proofs.Common.{is_bracket_next, tokens_from}
use Rattle.rust_lexer.proofs.lexer.is_bracket_next.Given as goal

abbrev pub invariant-loop-token : goal.invariant-loop-token
invariant-loop-token l = record {
  told : is_bracket_next (tokens_from 0 l.at l.rest) ≡ is_bracket_next (tokens_from 0 l.fn.at l.fn.text);
  utf8 : IsUtf8 l.rest;
  place : l.at + length l.rest ≡ l.fn.at + length l.fn.text;
}

abbrev pub decreases-loop-token : goal.decreases-loop-token
decreases-loop-token l = length l.rest
