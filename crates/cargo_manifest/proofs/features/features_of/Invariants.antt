-- the reading is what was read, and then the reading of what is left
use Rattle.std.proofs.Common.{map}
use Rattle.cargo_manifest.specs.Features.{feature_at}
use Rattle.cargo_manifest.specs.Views.{feature_view}
use Rattle.cargo_manifest.proofs.Lists.{HasRead}
use Rattle.cargo_manifest.proofs.features.features_of.Given as goal

abbrev pub invariant-loop-key : goal.invariant-loop-key
invariant-loop-key l = HasRead feature_at l.table.entries (map feature_view l.found.items) l.key-iterator
