use Rattle.source_tags.proofs.Common.{◌≡◌, ◌+◌}
use Rattle.std.specs.Prelude.{drop}
use Rattle.source_tags.specs.LineSearches.{searched_size}
use Rattle.source_tags.proofs.line_searches.searched_size.Given as goal

abbrev pub invariant-loop-byte : goal.invariant-loop-byte
invariant-loop-byte l = record {
  size : l.size ≡ l.byte-index;
  left : searched_size 0 l.fn.line ≡ l.size + searched_size l.length (drop l.byte-index l.fn.line);
}
