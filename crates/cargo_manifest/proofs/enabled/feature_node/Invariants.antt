-- the names so far, and then those of the entries that are left
use Rattle.std.proofs.Common.{◌≡◌, ◌++◌, map, drop, string_bytes}
use Rattle.std.specs.List.{filter_map}
use Rattle.cargo_manifest.specs.Features.{entry_feature}
use Rattle.cargo_manifest.specs.Views.{dependency_view}
use Rattle.cargo_manifest.proofs.enabled.feature_node.Given as goal

abbrev pub invariant-loop-entry : goal.invariant-loop-entry
invariant-loop-entry l = filter_map (entry_feature (map dependency_view l.dependencies)) (map string_bytes l.entry-items)
    ≡ map (λ name. name.now) l.enables.items ++ filter_map (entry_feature (map dependency_view l.dependencies)) (map string_bytes (drop l.entry-index l.entry-items))
