-- the reading is what was read, and then the reading of what is left
use Rattle.std.proofs.Common.{map}
use Rattle.cargo_manifest.specs.Dependencies.{target_sections}
use Rattle.cargo_manifest.specs.Inner.{workspace_view}
use Rattle.cargo_manifest.specs.Views.{dependency_view}
use Rattle.cargo_manifest.proofs.Lists.{HasRead}
use Rattle.cargo_manifest.proofs.dependencies.of_targets.Given as goal

abbrev pub invariant-loop-target : goal.invariant-loop-target
invariant-loop-target l = HasRead (target_sections (workspace_view l.workspace)) l.table.entries (map dependency_view l.all.items) l.target-iterator
