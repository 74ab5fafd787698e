use Rattle.std.proofs.Common.{◌≡◌, ◌++◌, map, take, flat_map, string_bytes}
use Rattle.itemtree_commands.specs.ModuleLists.{behind_comma}
use Rattle.itemtree_commands.proofs.module_lists.push_others.Given as goal

abbrev pub invariant-loop-path : goal.invariant-loop-path
invariant-loop-path l = string_bytes l.out ≡ string_bytes l.initial.out ++ flat_map behind_comma (map string_bytes (take l.path-index l.fn.paths))
