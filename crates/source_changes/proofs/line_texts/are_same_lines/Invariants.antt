use Rattle.std.proofs.Common.{◌≡◌, ◌↔◌, length}
use Rattle.source_changes.specs.Skeletons.{without_returns}
use Rattle.source_changes.proofs.line_texts.are_same_lines.Given as goal

abbrev pub invariant-bytes : goal.invariant-bytes
invariant-bytes l = (without_returns l.ours ≡ without_returns l.theirs) ↔ (without_returns l.fn.ours ≡ without_returns l.fn.theirs)

abbrev pub decreases-bytes : goal.decreases-bytes
decreases-bytes l = length l.ours
