-- the names of those so far that are enabled
use Rattle.std.proofs.Common.{◌≡◌, map, take}
use Rattle.cargo_manifest.specs.Inner.{step_names, feature_step_view}
use Rattle.cargo_manifest.proofs.enabled.step_names.Given as goal

abbrev pub invariant-loop-step : goal.invariant-loop-step
invariant-loop-step l = map (λ name. name.now) l.names.items ≡ step_names (map feature_step_view (take l.step-index l.steps))
