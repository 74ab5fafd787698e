-- the values so far and those of what is left are those of all
use Rattle.std.proofs.Common.{◌≡◌, ◌++◌, map}
use Rattle.serde_json.specs.View.{view}
use Rattle.source_session.proofs.Common.{change_form}
use Rattle.source_session.proofs.table_changes.change_values.Given as goal

abbrev pub invariant-loop-place : goal.invariant-loop-place
invariant-loop-place l = map view l.values.items ++ map change_form l.place-iterator ≡ map change_form l.fn.changes
