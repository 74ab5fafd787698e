use Rattle.std.proofs.Common.{◌≡◌, ◌≤◌, ◌+◌, length}
use Rattle.rust_edits.proofs.Common.{tokens, loose_from, brackets_view, closes_last, loose_inside}
use Rattle.rust_edits.proofs.alone.loose_if_closed.Given as goal

abbrev pub invariant-tokens : goal.invariant-tokens
invariant-tokens l =
    record {
      closed : closes_last l.depth l.lexer ≡ closes_last 0 (tokens l.text);
      loose : loose_from (brackets_view l.loose) l.lexer ≡ loose_inside l.text;
      few : l.depth + length l.lexer ≤ length l.text;
      few_loose : l.loose.closing + l.loose.opening + length l.lexer ≤ length l.text;
    }

abbrev pub decreases-tokens : goal.decreases-tokens
decreases-tokens l = length l.lexer
