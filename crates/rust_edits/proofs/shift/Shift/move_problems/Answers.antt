use Rattle.std.proofs.Common.{rules}
use Rattle.rust_edits.proofs.Common.{has_problem, shifted_problem}
use Rattle.rust_edits.proofs.Steps.{moved_all, moved_each}
use Rattle.rust_edits.proofs.shift.Shift.move_problems.Goals as goal

pub returns : goal.returns
returns c =
    let each = moved_each (has_problem c.args.self.now) (shifted_problem c.args.self.now) c.loop-problem.problem-index c.loop-problem.problems c.args.problems.now (search rules) c.loop-problem.invariant in
    record { all = moved_all (has_problem c.args.self.now) (shifted_problem c.args.self.now) c.loop-problem.problems c.args.problems.now each; each = each }
