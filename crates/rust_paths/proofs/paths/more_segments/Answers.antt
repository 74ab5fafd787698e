use Rattle.std.proofs.Common.{sym, ◌∙◌}
use Rattle.rust_paths.proofs.Common.{reads, with_words, more_segments}
use Rattle.rust_paths.proofs.Steps.{more_step}
use Rattle.rust_paths.proofs.paths.more_segments.Goals as goal

pub loop-turn-preserved : goal.loop-turn-preserved
loop-turn-preserved c =
    more_step c.args.in_use c.most_turns-most.result c.loop-turn._turn c.loop-turn.words c.segment.new.words
    c.loop-turn.cursor c.bump.new.self c.bump-in-loop-turn.new.self c.segment.new.cursor (with_words c.args.words.now (reads (more_segments c.args.in_use) c.args.cursor.now))
    c.loop-turn-test.true (sym c.has_more.ensures ∙ c.if-not-has_more.false) c.bump.ensures c.bump-in-loop-turn.ensures
    c.in_ok-segment.ensures c.loop-turn.invariant
