-- the reading is what was read, and then the reading of what is left
use Rattle.std.proofs.Common.{map}
use Rattle.cargo_manifest.specs.Dependencies.{dependency_at}
use Rattle.cargo_manifest.specs.Inner.{section_view}
use Rattle.cargo_manifest.specs.Views.{dependency_view}
use Rattle.cargo_manifest.proofs.Lists.{HasRead}
use Rattle.cargo_manifest.proofs.dependencies.dependencies_of.Given as goal

abbrev pub invariant-loop-key : goal.invariant-loop-key
invariant-loop-key l = HasRead (dependency_at (section_view l.section)) l.table.entries (map dependency_view l.found.items) l.key-iterator
