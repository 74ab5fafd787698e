-- the steps so far, one step on
use Rattle.std.proofs.Common.{◌≡◌, map, take}
use Rattle.cargo_manifest.specs.Inner.{step_after, feature_step_view}
use Rattle.cargo_manifest.proofs.enabled.next_steps.Given as goal

abbrev pub invariant-loop-step : goal.invariant-loop-step
invariant-loop-step l = map feature_step_view l.next.items ≡ map (step_after (map feature_step_view l.steps)) (map feature_step_view (take l.step-index l.steps))
