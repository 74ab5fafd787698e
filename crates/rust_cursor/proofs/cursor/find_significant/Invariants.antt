use Rattle.std.proofs.Common.{◌≡◌, filter}
use Rattle.rust_cursor.proofs.Common.{is_significant, last_unended}
use Rattle.rust_cursor.proofs.cursor.find_significant.Given as goal

abbrev pub invariant-tokens : goal.invariant-tokens
invariant-tokens l = record {
  callable : (goal.iterator-tokens).can_next l.lexer;
  finite : (goal.iterator-tokens).is_finite l.lexer;
  same : filter is_significant l.lexer ≡ filter is_significant l.initial.lexer;
  last : last_unended l.last l.lexer ≡ last_unended l.initial.last l.initial.lexer;
}
