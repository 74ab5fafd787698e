use Rattle.std.proofs.Common.{◌≡◌, ◌++◌, length, map}
use Rattle.rust_items.proofs.Common.{moved_span, place_by, places}
use Rattle.rust_items.proofs.source_file.places.Given as goal

abbrev pub invariant-loop-left : goal.invariant-loop-left
invariant-loop-left l =
    let move = map (moved_span (place_by l.ends.len l.ends.returns.items)) in l.places.items ++ places l.left (move l.unplaced) ≡ places l.ids (move l.spans)

abbrev pub decreases-loop-left : goal.decreases-loop-left
decreases-loop-left l = length l.left
