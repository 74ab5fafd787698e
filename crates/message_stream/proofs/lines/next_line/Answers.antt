use Rattle.std.proofs.Common.{subst, append-nil}
use Rattle.message_stream.proofs.Common.{Consumes, IsPart}
use Rattle.message_stream.proofs.Parts.{at_end, grown, last_next, one_next}
use Rattle.message_stream.proofs.lines.next_line.Goals as goal

pub returns-in-Feed : goal.returns-in-Feed
returns-in-Feed g c =
    let (read, consumed, no_feed, is) = c.loop-turn.invariant in
    one_next _ _ _ (grown _ _ _ _ _ _ read consumed no_feed is (subst (IsPart _ _ _ _) c.in-Feed.is c.in_ok-longer.ensures))

pub returns-in-End : goal.returns-in-End
returns-in-End g c =
    let (read, consumed, no_feed, is) = c.loop-turn.invariant in
    let part = subst (IsPart _ _ _ _) c.in-End.is c.in_ok-longer.ensures in
    let (all, all_consumed, all_no_feed, all_is) = grown _ _ _ _ _ _ read consumed no_feed is part in
    last_next _ _ c.last_of.result all (subst (Consumes _ _) (append-nil all) all_consumed) all_no_feed (at_end _ _ _ read consumed part.at_end) (c.last_of.ensures all all_is)

pub loop-turn-preserved : goal.loop-turn-preserved
loop-turn-preserved g c =
    let (read, consumed, no_feed, is) = c.loop-turn.invariant in
    let (all, all_consumed, all_no_feed, all_is) = grown _ _ _ _ _ _ read consumed no_feed is (subst (IsPart _ _ _ _) c.in-Shown.is c.in_ok-longer.ensures) in
    (all, subst (Consumes _ _) (append-nil all) all_consumed, all_no_feed, all_is)
