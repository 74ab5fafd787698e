-- the reading is what was read, and then the reading of what is left
use Rattle.cargo_manifest.specs.Roots.{binary_value}
use Rattle.cargo_manifest.specs.Views.{root_view}
use Rattle.cargo_manifest.proofs.Lists.{HasReadItems}
use Rattle.cargo_manifest.proofs.roots.binaries_of.Given as goal

abbrev pub invariant-loop-item : goal.invariant-loop-item
invariant-loop-item l = HasReadItems root_view (binary_value l.package_name) l.item-items l.found.items l.item-index
