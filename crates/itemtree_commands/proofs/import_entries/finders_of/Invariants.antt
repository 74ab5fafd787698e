use Rattle.std.proofs.Common.{◌≡◌, map, take}
use Rattle.itemtree_commands.specs.ModuleLists.{placed_text}
use Rattle.itemtree_commands.proofs.import_entries.finders_of.Given as goal

abbrev pub invariant-loop-file : goal.invariant-loop-file
invariant-loop-file l = l.finders.items ≡ map placed_text (take l.file-index l.fn.files)
