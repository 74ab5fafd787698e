use Rattle.std.proofs.Common.{◌≡◌, ◌≤◌, ◌==◌, ◌+◌, ◌*◌, length, count_by}
use Rattle.line_index.proofs.lists.feeds.Given as goal

abbrev pub invariant-loop-left : goal.invariant-loop-left
invariant-loop-left l = (l.count + count_by (λ b. b == 10) l.left ≡ count_by (λ b. b == 10) l.text) × (l.count + 2 * length l.left ≤ 2 * length l.text)

abbrev pub decreases-loop-left : goal.decreases-loop-left
decreases-loop-left l = length l.left
