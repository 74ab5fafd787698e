use Rattle.std.proofs.Common.{◌≡◌, drop}
use Rattle.source_problems.specs.Texts.{put_all, in_order}
use Rattle.source_problems.proofs.text.in_order.Given as goal

abbrev pub invariant-loop-problem : goal.invariant-loop-problem
invariant-loop-problem l = put_all l.known.keys (drop l.problem-index l.problems) ≡ in_order l.problems
