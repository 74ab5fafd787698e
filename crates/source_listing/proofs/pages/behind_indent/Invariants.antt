use Rattle.std.proofs.Common.{◌≡◌, length}
use Rattle.source_listing.specs.Pages as spec
use Rattle.source_listing.proofs.pages.behind_indent.Given as goal

abbrev pub invariant-loop-left : goal.invariant-loop-left
invariant-loop-left l = spec.behind_indent l.left ≡ spec.behind_indent l.initial.left

abbrev pub decreases-loop-left : goal.decreases-loop-left
decreases-loop-left l = length l.left
