use Rattle.std.proofs.Common.{map}
use Rattle.std.proofs.lemmas.Result.{on_ok_weaker}
use Rattle.tree_walk.specs.Inner.Steps.{around_view, step_view}
use Rattle.tree_walk.proofs.StepIds.{step_adds}
use Rattle.tree_walk.proofs.steps.+walk.Goals as goal

pub push_one-returns : goal.push_one-returns
push_one-returns t c =
    on_ok_weaker c.push_all.result (step_adds c.args.tree.now (around_view c.args.around.now) (around_view c.in_ok-below.below) c.args.id c.children-ids.result.now
    (map step_view c.args.steps.now.items) _ (map step_view c.push_all.new.steps.items) c.in_ok-below.ensures c.children-ids.ensures.ids c.in_ok-push_step.ensures) c.push_all.ensures
