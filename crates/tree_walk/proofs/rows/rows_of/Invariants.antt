use Rattle.std.proofs.Common.{◌≡◌, All, map, take, flat_map}
use Rattle.tree_walk.specs.{Inner.Rows.step_row, Inner.Steps.step_view, Views.HasOwnUse, Views.row_view}
use Rattle.tree_walk.proofs.rows.rows_of.Given as goal

abbrev pub invariant-loop-step : goal.invariant-loop-step
invariant-loop-step l = record {
  rows : map row_view l.rows.items ≡ flat_map (step_row l.tree) (map step_view (take l.step-index l.steps));
  visible : All (HasOwnUse l.tree) l.rows.items;
}
