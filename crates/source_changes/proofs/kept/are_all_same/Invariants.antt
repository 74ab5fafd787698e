use Rattle.std.proofs.Common.{◌≡◌, ◌↔◌, length}
use Rattle.source_changes.specs.Inner.{ComeBehind, left_texts}
use Rattle.source_changes.proofs.kept.are_all_same.Given as goal

abbrev pub invariant-texts : goal.invariant-texts
invariant-texts l = record {
  ours : ComeBehind 0 l.ours.lexer;
  theirs : ComeBehind 0 l.theirs.lexer;
  same : (left_texts l.ours ≡ left_texts l.theirs) ↔ (left_texts l.initial.ours ≡ left_texts l.initial.theirs);
}

abbrev pub decreases-texts : goal.decreases-texts
decreases-texts l = length l.ours.lexer
