use Rattle.std.proofs.Common.{◌≡◌, ◌-◌}
use Rattle.rust_leaves.proofs.Common.{behind_segments_from, behind_segments}
use Rattle.rust_leaves.proofs.head.pass_segments.Given as goal

abbrev pub invariant-loop-turn : goal.invariant-loop-turn
invariant-loop-turn l = behind_segments_from (l.most - l._turn) l.cursor ≡ behind_segments l.fn.cursor
