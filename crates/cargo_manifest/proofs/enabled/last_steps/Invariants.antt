-- each is as it is after so many steps
use Rattle.std.proofs.Common.{◌≡◌, map}
use Rattle.cargo_manifest.specs.Inner.{feature_node_view, feature_step_view}
use Rattle.cargo_manifest.specs.Views.{asked_features_view}
use Rattle.cargo_manifest.proofs.Enabling.{marks}
use Rattle.cargo_manifest.proofs.enabled.last_steps.Given as goal

abbrev pub invariant-loop-turn : goal.invariant-loop-turn
invariant-loop-turn l = map feature_step_view l.steps.items ≡ marks (map feature_node_view l.nodes) (asked_features_view l.choice) l._turn
