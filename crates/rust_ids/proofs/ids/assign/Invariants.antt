use Rattle.std.proofs.Common.{MatchOption}
use Rattle.rust_ids.proofs.Common.{AreIds, IsNumbered, is_numbered_before}
use Rattle.rust_ids.proofs.Steps.{left_behind}
use Rattle.rust_ids.proofs.ids.assign.Given as goal

abbrev pub invariant-loop-level : goal.invariant-loop-level
invariant-loop-level l = MatchOption l.level (AreIds l.nodes l.ids.items) (λ depth. IsNumbered (is_numbered_before l.nodes depth 0) l.nodes l.ids.items l.counts)

abbrev pub decreases-loop-level : goal.decreases-loop-level
decreases-loop-level l = left_behind l.level
