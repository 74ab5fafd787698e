use Rattle.std.proofs.Common.{◌≡◌, ◌++◌, map, take}
use Rattle.def_map.specs.CrateView.{other_view}
use Rattle.def_map.proofs.gather.push_words.Given as goal

abbrev pub invariant-loop-word : goal.invariant-loop-word
invariant-loop-word l = map other_view l.list.items ≡ map other_view l.fn.list.items ++ map other_view (take l.word-index l.words)
