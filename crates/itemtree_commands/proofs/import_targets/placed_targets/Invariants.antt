use Rattle.std.proofs.Common.{◌≡◌, map, take, flat_map}
use Rattle.itemtree_commands.specs.ImportTargets.{placed_target}
use Rattle.itemtree_commands.specs.Inner.{pathed_view, target_view}
use Rattle.itemtree_commands.proofs.import_targets.placed_targets.Given as goal

abbrev pub invariant-loop-target : goal.invariant-loop-target
invariant-loop-target l =
    map target_view l.found.items ≡ flat_map (placed_target l.fn.files l.fn.modules (map pathed_view l.fn.pathed)) (take l.target-index l.fn.targets)
