use Rattle.std.proofs.Common.{◌≡◌, take}
use Rattle.itemtree_commands.proofs.declarations.declared_items.Given as goal

abbrev pub invariant-loop-file : goal.invariant-loop-file
invariant-loop-file l = l.declared.items ≡ take l.file-index l.fn.files
