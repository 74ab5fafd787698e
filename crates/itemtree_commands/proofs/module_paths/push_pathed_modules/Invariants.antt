use Rattle.std.proofs.Common.{◌≡◌, map, take, fold}
use Rattle.itemtree_commands.specs.Inner.{pathed_view}
use Rattle.itemtree_commands.specs.ModuleLists.{with_pathed}
use Rattle.itemtree_commands.proofs.module_paths.push_pathed_modules.Given as goal

abbrev pub invariant-loop-data : goal.invariant-loop-data
invariant-loop-data l =
    map pathed_view l.pathed.items ≡ fold (with_pathed l.fn.edition.reserved.items) (map pathed_view l.initial.pathed.items) (take l.data-index l.fn.modules)
