-- the names so far are the words so far that are names
use Rattle.std.proofs.Common.{◌≡◌, take, option_to_list, flat_map}
use Rattle.hir_input.specs.Name.{name_in}
use Rattle.source_session.proofs.line.usual_skipped.Given as goal

abbrev pub invariant-loop-word : goal.invariant-loop-word
invariant-loop-word l = l.names.items ≡ flat_map (λ word. option_to_list (name_in word.now)) (take l.word-index l.word-items)
