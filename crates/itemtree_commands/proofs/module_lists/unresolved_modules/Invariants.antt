use Rattle.std.proofs.Common.{◌≡◌, map, take, flat_map, string_bytes}
use Rattle.module_tree.specs.Views.{unresolved_view}
use Rattle.itemtree_commands.specs.ModuleLists.{unresolved_in, placed_text}
use Rattle.itemtree_commands.proofs.module_lists.unresolved_modules.Given as goal

abbrev pub invariant-loop-unresolved : goal.invariant-loop-unresolved
invariant-loop-unresolved l =
    (l.finders.items ≡ map placed_text l.fn.files)
    × (string_bytes l.out ≡ flat_map (unresolved_in l.fn.is_colored l.fn.edition.reserved.items l.fn.files l.modules) (map unresolved_view (take l.unresolved-index l.fn.tree.unresolved.items)))
