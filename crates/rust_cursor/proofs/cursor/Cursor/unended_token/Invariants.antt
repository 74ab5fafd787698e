use Rattle.std.proofs.Common.{◌≡◌}
use Rattle.rust_cursor.proofs.Common.{last_unended}
use Rattle.rust_cursor.proofs.cursor.Cursor.unended_token.Given as goal

abbrev pub invariant-tokens : goal.invariant-tokens
invariant-tokens l = record {
  callable : (goal.iterator-tokens).can_next l.lexer;
  finite : (goal.iterator-tokens).is_finite l.lexer;
  same : last_unended l.last l.lexer ≡ l.self.unended;
}
