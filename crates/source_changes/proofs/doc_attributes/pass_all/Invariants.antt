use Rattle.std.proofs.Common.{◌≡◌, length, map}
use Rattle.source_changes.specs.DocAttributes.{behind_tests}
use Rattle.source_changes.specs.Inner.{sign_test}
use Rattle.source_changes.proofs.doc_attributes.pass_all.Given as goal

abbrev pub invariant-loop-left : goal.invariant-loop-left
invariant-loop-left l = behind_tests (map sign_test l.left) l.lexer ≡ behind_tests (map sign_test l.fn.signs) l.initial.lexer

abbrev pub decreases-loop-left : goal.decreases-loop-left
decreases-loop-left l = length l.lexer
