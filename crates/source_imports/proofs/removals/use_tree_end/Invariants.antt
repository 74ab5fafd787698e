use Rattle.std.proofs.Common.{◌≡◌, ◌≤◌, ◌+◌, length}
use Rattle.rust_lexer.specs.Tokens.{tokens}
use Rattle.source_imports.specs.Removals as spec
use Rattle.source_imports.proofs.TreeEnds.{AreWithin}
use Rattle.source_imports.proofs.removals.use_tree_end.Given as goal

abbrev pub invariant-tokens : goal.invariant-tokens
invariant-tokens l = record {
  value : spec.use_tree_end l.depth l.past l.lexer ≡ spec.use_tree_end 0 0 (tokens l.text);
  room : l.depth + length l.lexer ≤ length l.text;
  within : AreWithin (length l.text) l.lexer;
  past : l.past ≤ length l.text;
}

abbrev pub decreases-tokens : goal.decreases-tokens
decreases-tokens l = length l.lexer
