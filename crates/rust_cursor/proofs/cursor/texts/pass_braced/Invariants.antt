use Rattle.std.proofs.Common.{◌≡◌, ◌==◌, false, length, filter}
use Rattle.rust_cursor.proofs.Common.{is_significant, last_unended, LeadsOn}
use Rattle.rust_cursor.proofs.cursor.texts.pass_braced.Given as goal

abbrev pub invariant-tokens : goal.invariant-tokens
invariant-tokens l = record {
  some : (l.nest.braces == 0) ≡ false;
  leads : LeadsOn l.initial.past (filter is_significant l.initial.lexer) l.initial.nest l.past (filter is_significant l.lexer) l.nest;
  last : last_unended l.last l.lexer ≡ last_unended l.initial.last l.initial.lexer;
}

abbrev pub decreases-tokens : goal.decreases-tokens
decreases-tokens l = length l.lexer
