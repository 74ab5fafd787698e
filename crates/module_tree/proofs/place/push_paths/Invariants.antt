use Rattle.std.proofs.Common.{◌≡◌, ◌++◌}
use Rattle.module_tree.specs.Inner.{path_texts}
use Rattle.module_tree.proofs.place.push_paths.Given as goal

abbrev pub invariant-loop-path : goal.invariant-loop-path
invariant-loop-path l = path_texts l.all.items ++ path_texts l.path-iterator.rest.items ≡ path_texts l.fn.all.items ++ path_texts l.fn.paths.items
