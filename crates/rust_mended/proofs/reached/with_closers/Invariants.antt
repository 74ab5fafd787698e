use Rattle.std.proofs.Common.{◌≡◌, [], length}
use Rattle.rust_mended.specs.Steps.{reach_before}
use Rattle.rust_mended.proofs.reached.with_closers.Given as goal

abbrev pub invariant-marks : goal.invariant-marks
invariant-marks l = reach_before l.rest (l.marked.items, l.reaching.items) ≡ reach_before l.marks ([], [])

abbrev pub decreases-marks : goal.decreases-marks
decreases-marks l = length l.rest
