use Rattle.std.proofs.Common.{◌≡◌, map, take}
use Rattle.module_tree.specs.{Inner.path_texts, Inner.candidate_file_view, Modules.candidate_path}
use Rattle.module_tree.proofs.place.candidate_paths.Given as goal

abbrev pub invariant-loop-candidate : goal.invariant-loop-candidate
invariant-loop-candidate l = path_texts l.paths.items ≡ map candidate_path (map candidate_file_view (take l.candidate-index l.candidate-items))
