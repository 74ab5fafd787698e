use Rattle.std.proofs.Common.{◌≡◌, map, take}
use Rattle.module_tree.specs.{Inner.path_texts, Inner.candidate_file_view, Modules.unknown_paths, Views.files_of}
use Rattle.module_tree.proofs.resolve.unknown_paths.Given as goal

abbrev pub invariant-loop-candidate : goal.invariant-loop-candidate
invariant-loop-candidate l = path_texts l.paths.items ≡ unknown_paths (files_of l.known) (map candidate_file_view (take l.candidate-index l.candidates))
