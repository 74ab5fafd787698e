use Rattle.std.proofs.Common.{◌≡◌, ◌-◌}
use Rattle.rust_paths.proofs.Common.{reads, with_words, more_from, more_segments}
use Rattle.rust_paths.proofs.paths.more_segments.Given as goal

abbrev pub invariant-loop-turn : goal.invariant-loop-turn
invariant-loop-turn l = with_words l.words (reads (more_from l.in_use (l.most - l._turn)) l.cursor) ≡ with_words l.fn.words (reads (more_segments l.in_use) l.fn.cursor)
