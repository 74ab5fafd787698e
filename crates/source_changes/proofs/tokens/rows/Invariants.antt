use Rattle.std.proofs.Common.{◌≡◌, ◌++◌, map, length}
use Rattle.source_changes.proofs.Common.{row_part, text_row_view, part_rows, part_view}
use Rattle.source_changes.proofs.tokens.rows.Given as goal

abbrev pub invariant-loop-left : goal.invariant-loop-left
invariant-loop-left l = record {
  rows : map text_row_view l.rows.items ++ part_rows l.has_docs l.text (map part_view l.left) ≡ part_rows l.has_docs l.text (map part_view l.fn.parts);
  parts : map row_part l.rows.items ++ map part_view l.left ≡ map part_view l.fn.parts;
}

abbrev pub decreases-loop-left : goal.decreases-loop-left
decreases-loop-left l = length l.left
