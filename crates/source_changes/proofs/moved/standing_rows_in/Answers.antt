use Rattle.std.proofs.Common.{rules}
use Rattle.source_changes.proofs.StandingRows.{no_more_ranks, no_more_rows}
use Rattle.source_changes.proofs.moved.standing_rows_in.Goals as goal
use Rattle.source_changes.proofs.moved.standing_rows_in.Goals.{in_default, in_default-2}

pub returns : goal.returns
returns c = elim c.if-left_rows-lt1.branch [
  | in_default w ↦ no_more_rows _ _ _ c.loop-left_rows.left_rows.now _ w.in_default.len_below c.loop-left_rows.invariant
  | in_default-2 w ↦ no_more_ranks _ _ _ _ _ c.loop-left_rows.left_ranks.now (search rules) c.loop-left_rows.invariant
]
