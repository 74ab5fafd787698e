use Rattle.std.proofs.Common.{◌≡◌, length, map}
use Rattle.source_changes.specs.DocAttributes.{inner_doc_list}
use Rattle.source_changes.specs.Inner.{are_apart, sign_test}
use Rattle.source_changes.proofs.doc_attributes.is_apart.Given as goal

abbrev pub invariant-loop-left : goal.invariant-loop-left
invariant-loop-left l = are_apart (map sign_test l.left) l.fn.lexer ≡ are_apart inner_doc_list l.fn.lexer

abbrev pub decreases-loop-left : goal.decreases-loop-left
decreases-loop-left l = length l.left
