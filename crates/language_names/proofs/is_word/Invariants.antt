use Rattle.std.proofs.Common.{◌≡◌, false, take, nat_eq}
use Rattle.std.specs.{List.list_any, Cmp.Lexicographic.pointwise}
use Rattle.language_names.proofs.is_word.Given as goal

abbrev pub invariant-loop-word : goal.invariant-loop-word
invariant-loop-word l = list_any (λ word. pointwise nat_eq word.now l.wanted) (take l.word-index l.words) ≡ false
