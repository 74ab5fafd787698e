use Rattle.std.proofs.Common.{◌≡◌, ◌++◌, [], map, length, zip}
use Rattle.source_changes.specs.Inner.{frame_view, standing_row_view}
use Rattle.source_changes.specs.Moves.{standings_from}
use Rattle.source_changes.proofs.Common.{row_part, text_row_view}
use Rattle.source_changes.proofs.moved.standing_rows_in.Given as goal

abbrev pub invariant-loop-left_rows : goal.invariant-loop-left_rows
invariant-loop-left_rows l =
    map standing_row_view l.items.items ++ zip (standings_from (map frame_view l.frames.items) (map row_part l.left_rows) l.left_ranks) (map text_row_view l.left_rows)
    ≡ zip (standings_from [] (map row_part l.fn.rows) l.fn.ranks) (map text_row_view l.fn.rows)

abbrev pub decreases-loop-left_rows : goal.decreases-loop-left_rows
decreases-loop-left_rows l = length l.left_rows
