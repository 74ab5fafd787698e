use Rattle.source_tags.proofs.Common.{◌≡◌, ◌≤◌, ◌+◌, length}
use Rattle.source_tags.specs.Inner.{head_view}
use Rattle.source_tags.specs.TagFields.{signature, signature_behind}
use Rattle.source_tags.proofs.tag_fields.signature.Given as goal

abbrev pub invariant-tokens : goal.invariant-tokens
invariant-tokens l = record {
  rest : signature_behind (head_view l.head) l.lexer ≡ signature l.fn.text;
  few : l.head.depth + length l.lexer ≤ length l.fn.text;
}

abbrev pub decreases-tokens : goal.decreases-tokens
decreases-tokens l = length l.lexer
