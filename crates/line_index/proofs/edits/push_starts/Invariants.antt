use Rattle.std.proofs.Common.{◌≡◌, ◌+◌, ◌++◌, length}
use Rattle.line_index.specs.Inner as inner
use Rattle.line_index.proofs.edits.push_starts.Given as goal

abbrev pub invariant-loop-left : goal.invariant-loop-left
invariant-loop-left l =
    (l.starts.items ++ inner.starts_before l.line_ends l.at l.next l.left ≡ l.initial.starts.items ++ inner.starts_before l.line_ends l.initial.at l.next l.initial.left)
    × (l.at + length l.left ≡ l.initial.at + length l.initial.left)

abbrev pub decreases-loop-left : goal.decreases-loop-left
decreases-loop-left l = length l.left
