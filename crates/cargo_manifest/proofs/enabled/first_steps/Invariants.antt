-- the steps of the nodes so far
use Rattle.std.proofs.Common.{◌≡◌, map, take}
use Rattle.cargo_manifest.specs.Features.{is_asked}
use Rattle.cargo_manifest.specs.Inner.{step_marked, feature_node_view, feature_step_view}
use Rattle.cargo_manifest.specs.Views.{asked_features_view}
use Rattle.cargo_manifest.proofs.enabled.first_steps.Given as goal

abbrev pub invariant-loop-node : goal.invariant-loop-node
invariant-loop-node l = map feature_step_view l.steps.items ≡ map (step_marked (is_asked (asked_features_view l.choice))) (map feature_node_view (take l.node-index l.nodes))
