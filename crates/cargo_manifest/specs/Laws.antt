-- What holds of all features.
use Rattle.std.specs.Prelude.{◌≡◌, suc, List, length, map}
use Rattle.cargo_manifest.specs.Features.{FeatureNode, AskedFeatures, is_enabled_within}

-- no feature is enabled in one step more than there are features that is not enabled before
abbrev pub ClosesInTime : Type 0
ClosesInTime = (ns : List FeatureNode) (c : AskedFeatures)
    → map (λ f. is_enabled_within ns c (suc (length ns)) f.name) ns ≡ map (λ f. is_enabled_within ns c (length ns) f.name) ns
