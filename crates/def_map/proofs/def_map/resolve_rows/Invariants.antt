use Rattle.std.proofs.Common.{◌≡◌, ◌++◌, map}
use Rattle.std.specs.Vec.Iter.{into_iter_items}
use Rattle.def_map.specs.Inner.Told.{resolved_answer, rows_answers}
use Rattle.def_map.specs.Views.{crate_row_view}
use Rattle.def_map.proofs.def_map.resolve_rows.Given as goal

abbrev pub invariant-loop-row : goal.invariant-loop-row
invariant-loop-row l =
    map resolved_answer l.resolved.items ++ rows_answers (map crate_row_view l.row-iterator.rest.items) (into_iter_items l.told)
    ≡ rows_answers (map crate_row_view l.fn.rows.items) l.fn.told.items
