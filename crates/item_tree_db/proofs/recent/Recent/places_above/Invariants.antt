use Rattle.item_tree_db.proofs.Common.{IsStrictlySortedBy, noted_cmp}
use Rattle.item_tree_db.proofs.PlaceNumbers.{AreMet}
use Rattle.item_tree_db.proofs.recent.Recent.places_above.Given as goal

abbrev pub invariant-loop-noted : goal.invariant-loop-noted
invariant-loop-noted l = record {
  callable : (goal.iterator-loop-noted).can_next l.noted-iterator;
  finite : (goal.iterator-loop-noted).is_finite l.noted-iterator;
  sorted : IsStrictlySortedBy noted_cmp l.noted-iterator.iter;
  met : AreMet l.self l.noted-iterator.iter l.places.keys;
}
