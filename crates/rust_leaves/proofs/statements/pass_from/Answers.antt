use Rattle.std.proofs.Common.{sym, ap, ◌∙◌}
use Rattle.rust_leaves.proofs.Steps.{statement_turn}
use Rattle.rust_leaves.specs.declared.statements.Step.TheVariants as steps
use Rattle.rust_leaves.proofs.statements.pass_from.Goals as goal

pub loop-turn-preserved : goal.loop-turn-preserved
loop-turn-preserved c =
    let told = c.statement_step.ensures ∙ ap (λ s. (s, c.statement_step.new.cursor)) c.in-On.is in
    sym (statement_turn c.most_turns-most.result c.loop-turn._turn c.loop-turn.scan (steps.On c.in-On.next) c.loop-turn.cursor c.statement_step.new.cursor c.loop-turn-test.true told)
    ∙ c.loop-turn.invariant
