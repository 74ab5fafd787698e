-- the objects so far and those of the trees that are left are those of all, and these are of known crates
use Rattle.std.proofs.Common.{◌≡◌, ◌++◌, All, map, flat_map}
use Rattle.serde_json.specs.View.{view}
use Rattle.item_tree_db.specs.State.{IsKnown}
use Rattle.source_session.specs.Searches.{change_matches}
use Rattle.source_session.proofs.searched.matches.Given as goal

abbrev pub invariant-loop-place : goal.invariant-loop-place
invariant-loop-place l = record {
  known : All (λ c. IsKnown l.session.session.table c.1) l.place-iterator;
  values : map view l.values.items ++ flat_map (change_matches l.session.session l.searched) l.place-iterator ≡ flat_map (change_matches l.session.session l.searched) l.fn.changes;
}
