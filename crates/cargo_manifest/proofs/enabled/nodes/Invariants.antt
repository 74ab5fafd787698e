-- the nodes of the features so far
use Rattle.std.proofs.Common.{◌≡◌, map, take}
use Rattle.cargo_manifest.specs.Features.{feature_node}
use Rattle.cargo_manifest.specs.Inner.{feature_node_view}
use Rattle.cargo_manifest.specs.Views.{dependency_view, feature_view}
use Rattle.cargo_manifest.proofs.enabled.nodes.Given as goal

abbrev pub invariant-loop-feature : goal.invariant-loop-feature
invariant-loop-feature l = map feature_node_view l.nodes.items ≡ map (feature_node (map dependency_view l.dependencies)) (map feature_view (take l.feature-index l.features))
