use Rattle.std.proofs.Common.{◌≡◌, ◌++◌, map, take, flat_map, string_bytes}
use Rattle.itemtree_commands.specs.ImportTargets.{entry_if_listed}
use Rattle.itemtree_commands.specs.Inner.{pathed_view}
use Rattle.itemtree_commands.proofs.import_entries.push_imports.Given as goal

abbrev pub invariant-loop-import : goal.invariant-loop-import
invariant-loop-import l =
    (l.finders ≡ l.initial.finders)
    × (string_bytes l.out ≡ string_bytes l.initial.out ++ flat_map (entry_if_listed l.fn.look l.fn.edition.reserved.items l.fn.files l.initial.finders l.fn.modules (map pathed_view l.fn.pathed)) (take l.import-index l.fn.imports))
