use Rattle.std.proofs.Common.{◌≡◌, ◌≤◌, length}
use Rattle.source_changes.specs.Skeletons.{without_returns}
use Rattle.source_changes.proofs.line_texts.next_byte.Given as goal

abbrev pub invariant-bytes : goal.invariant-bytes
invariant-bytes l = record {
  fewer : length l.left.now ≤ length l.initial.left.now;
  same : without_returns l.left.now ≡ without_returns l.initial.left.now;
}

abbrev pub decreases-bytes : goal.decreases-bytes
decreases-bytes l = length l.left.now
