-- all so far are known
use Rattle.std.proofs.Common.{◌≡◌, map, drop}
use Rattle.cargo_manifest.specs.Features.{unknown_name}
use Rattle.cargo_manifest.specs.Views.{feature_view}
use Rattle.cargo_manifest.proofs.enabled.unknown_name.Given as goal

abbrev pub invariant-loop-name : goal.invariant-loop-name
invariant-loop-name l = unknown_name (map feature_view l.features) (map (λ t. t.now) l.named) ≡ unknown_name (map feature_view l.features) (map (λ t. t.now) (drop l.name-index l.named))
