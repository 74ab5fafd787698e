use Rattle.std.proofs.Common.{◌≡◌, map, take, flat_map, string_bytes}
use Rattle.itemtree_commands.specs.Inner.{pathed_view}
use Rattle.itemtree_commands.specs.ModuleLists.{entry_of_module, placed_text}
use Rattle.itemtree_commands.proofs.module_lists.modules.Given as goal

abbrev pub invariant-loop-one : goal.invariant-loop-one
invariant-loop-one l =
    (l.finders.items ≡ map placed_text l.fn.files)
    × (string_bytes l.out ≡ flat_map (entry_of_module l.fn.form l.fn.files l.modules) (map pathed_view (take l.one-index l.one-items)))
