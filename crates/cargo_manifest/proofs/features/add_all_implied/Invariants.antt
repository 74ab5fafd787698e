-- the features with those of the dependencies so far
use Rattle.std.proofs.Common.{◌≡◌, map, take}
use Rattle.cargo_manifest.specs.Features.{all_features}
use Rattle.cargo_manifest.specs.Views.{dependency_view, feature_view}
use Rattle.cargo_manifest.proofs.features.add_all_implied.Given as goal

abbrev pub invariant-loop-dependency : goal.invariant-loop-dependency
invariant-loop-dependency l = map feature_view l.features.items ≡ all_features (map feature_view l.fn.features.items) (map dependency_view (take l.dependency-index l.dependencies))
