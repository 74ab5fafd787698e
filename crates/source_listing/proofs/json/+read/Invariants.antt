use Rattle.source_listing.proofs.Common.{◌≡◌, ◌+◌, ◌++◌, ◌*◌, map, take, sum_by, flat_map, view, count_at, reading_view, IsSameFile, file_of, objects_at, places_of, reserved_of, choice_view}
use Rattle.source_listing.proofs.json.+read.Given as goal

abbrev pub decreases-push_objects : goal.decreases-push_objects
decreases-push_objects l = 2 * sum_by (count_at l.listing.tree.now) l.ids.now + 1

abbrev pub decreases-push_object : goal.decreases-push_object
decreases-push_object l = 2 * count_at l.listing.tree.now l.id

abbrev pub invariant-push_objects-loop-id : goal.invariant-push_objects-loop-id
invariant-push_objects-loop-id l = let p = l.fn.printer in let x = l.listing in record {
  objects : map view l.out.items ≡ map view l.fn.out.items ++ flat_map (objects_at x.units (file_of p) (reading_view x.reading) (reserved_of p) (places_of p).items (choice_view x.choice) x.tree.now l.around.level l.around.is_active) (take l.id-index l.ids);
  same : IsSameFile p l.printer;
}
