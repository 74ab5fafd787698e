use Rattle.std.proofs.Common.{◌≡◌, map, take}
use Rattle.serde_json.specs.View.{view}
use Rattle.itemtree_commands.specs.ImportTargets.{target_object}
use Rattle.itemtree_commands.specs.Inner.{target_view}
use Rattle.itemtree_commands.proofs.import_entries.targets_value.Given as goal

abbrev pub invariant-loop-target : goal.invariant-loop-target
invariant-loop-target l = map view l.values.items ≡ map target_object (map target_view (take l.target-index l.fn.targets))
