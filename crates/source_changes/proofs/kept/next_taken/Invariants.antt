use Rattle.std.proofs.Common.{◌≡◌, ◌≤◌, length}
use Rattle.source_changes.specs.Inner.{ComeBehind, left_texts}
use Rattle.source_changes.proofs.kept.next_taken.Given as goal

abbrev pub invariant-tokens : goal.invariant-tokens
invariant-tokens l = record {
  after : ComeBehind 0 l.left.lexer;
  fewer : length l.left.lexer ≤ length l.initial.left.lexer;
  same : left_texts l.left ≡ left_texts l.initial.left;
}

abbrev pub decreases-tokens : goal.decreases-tokens
decreases-tokens l = length l.left.lexer
