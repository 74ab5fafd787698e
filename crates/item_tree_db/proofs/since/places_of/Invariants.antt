-- the places so far and those of what is left are those of all
use Rattle.std.proofs.Common.{◌≡◌, ◌||◌}
use Rattle.std.specs.BTreeSet.{contains}
use Rattle.item_tree_db.proofs.Common.{Place, has_change, place_cmp}
use Rattle.item_tree_db.proofs.since.places_of.Given as goal

abbrev pub invariant-loop-place : goal.invariant-loop-place
invariant-loop-place l = (q : Place) → (contains place_cmp l.places q || has_change l.place-iterator q) ≡ has_change l.fn.changes q
