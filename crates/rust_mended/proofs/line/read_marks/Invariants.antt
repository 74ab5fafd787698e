use Rattle.std.proofs.Common.{◌≡◌, ◌++◌, length}
use Rattle.rust_mended.specs.Marks.{marks, marks_from, last_end, line_behind_all}
use Rattle.rust_mended.proofs.line.read_marks.Given as goal

abbrev pub invariant-tokens : goal.invariant-tokens
invariant-tokens l = record {
  items : l.items.items ++ marks_from l.line l.lexer ≡ marks l.text;
  last_end : (line_behind_all l.line l.lexer).behind ≡ last_end l.text;
}

abbrev pub decreases-tokens : goal.decreases-tokens
decreases-tokens l = length l.lexer
