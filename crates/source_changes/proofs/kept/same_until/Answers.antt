use Rattle.std.proofs.Common.{arith}
use Rattle.source_changes.proofs.CountedTokens.{nearer, same_before, same_turn}
use Rattle.source_changes.proofs.kept.same_until.Goals as goal

pub loop-ours-preserved : goal.loop-ours-preserved
loop-ours-preserved c = λ place same.
    c.loop-ours.invariant place
    (same_turn place c.loop-ours.ours.now c.loop-ours.theirs.now _ c.ne.result c.in-len1-up.len_at_least c.in-len1-up-theirs.len_at_least c.ne.ensures c.if-ne.false same)

pub returns : goal.returns
returns c =
    c.loop-ours.invariant c.min.result (same_before c.min.result c.loop-ours.ours.now c.loop-ours.theirs.now
    (nearer c.min.result c.beginning.result c.loop-ours.ours.now (omega arith) c.beginning.ensures)
    (nearer c.min.result c.beginning-2.result c.loop-ours.theirs.now (omega arith) c.beginning-2.ensures))
