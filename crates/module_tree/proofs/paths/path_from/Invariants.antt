use Rattle.std.proofs.Common.{◌≡◌, map}
use Rattle.std.specs.List.{fold}
use Rattle.module_tree.specs.{Inner.texts, Paths.stepped_words}
use Rattle.module_tree.proofs.paths.path_from.Given as goal

abbrev pub invariant-loop-word : goal.invariant-loop-word
invariant-loop-word l = texts l.names.items ≡ fold stepped_words (texts l.initial.names.items) (map (λ word. word.now) l.yielded)
