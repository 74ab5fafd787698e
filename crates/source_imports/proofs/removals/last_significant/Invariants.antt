use Rattle.std.proofs.Common.{◌≡◌, ◌≤◌, None, length}
use Rattle.std.specs.Prelude.{IfSome}
use Rattle.rust_cursor.specs.Tokens.{end_of}
use Rattle.rust_lexer.specs.Tokens.{tokens}
use Rattle.source_imports.specs.Removals as spec
use Rattle.source_imports.proofs.TreeEnds.{AreWithin}
use Rattle.source_imports.proofs.removals.last_significant.Given as goal

abbrev pub invariant-tokens : goal.invariant-tokens
invariant-tokens l = record {
  value : spec.last_significant l.last l.lexer ≡ spec.last_significant None (tokens l.text);
  within : AreWithin (length l.text) l.lexer;
  last : IfSome l.last (λ t. end_of t ≤ length l.text);
}

abbrev pub decreases-tokens : goal.decreases-tokens
decreases-tokens l = length l.lexer
