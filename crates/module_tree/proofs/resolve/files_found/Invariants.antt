use Rattle.std.proofs.Common.{◌≡◌, map, take}
use Rattle.module_tree.specs.{Inner.file_dir, Inner.candidate_file_view, Modules.files_found, Views.files_of}
use Rattle.module_tree.proofs.resolve.files_found.Given as goal

abbrev pub invariant-loop-candidate : goal.invariant-loop-candidate
invariant-loop-candidate l = map file_dir l.found.items ≡ files_found (files_of l.known) (map candidate_file_view (take l.candidate-index l.candidates))
