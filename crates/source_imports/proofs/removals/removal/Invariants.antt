use Rattle.std.proofs.Common.{◌≡◌}
use Rattle.source_listing.specs.Views.{placed_trees_view}
use Rattle.source_imports.specs.Removals as spec
use Rattle.source_imports.proofs.removals.removal.Given as goal

abbrev pub invariant-loop-left : goal.invariant-loop-left
invariant-loop-left l = spec.removal l.text (placed_trees_view l.trees) l.left ≡ spec.removal l.text (placed_trees_view l.trees) l.initial.left

abbrev pub decreases-loop-left : goal.decreases-loop-left
decreases-loop-left l = l.left
