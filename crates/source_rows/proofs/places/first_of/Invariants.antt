use Rattle.std.proofs.Common.{◌≡◌, length}
use Rattle.source_rows.specs.Ends.{IsEndOf}
use Rattle.source_rows.specs.Places.{place_of}
use Rattle.source_rows.proofs.places.first_of.Given as goal

abbrev pub invariant-loop-left : goal.invariant-loop-left
invariant-loop-left l = (place_of l.id l.left ≡ place_of l.id l.initial.left) × IsEndOf l.left l.initial.left

abbrev pub decreases-loop-left : goal.decreases-loop-left
decreases-loop-left l = length l.left
