use Rattle.std.proofs.Common.{rules, take, sym, subst, ap, ◌∙◌}
use Rattle.source_changes.specs.Matches.{CountsAll, ranks, same_keys}
use Rattle.source_changes.proofs.Tables.{counted_within, next_taken, one_counted, ranks_more}
use Rattle.source_changes.proofs.matching.ranks.Goals as goal

pub count_one-requires : goal.count_one-requires
count_one-requires g c = counted_within g.met.K.Eq.laws c.loop-one.counts (take c.loop-one.one-index c.args.list.now) c.one-item.result.key 18446744073709551615 c.loop-one.invariant.counted (search rules)

pub loop-one-preserved : goal.loop-one-preserved
loop-one-preserved g c =
    let before = take c.loop-one.one-index c.args.list.now in
    let one = c.one-item.result in
    let more = next_taken c.args.list.now c.loop-one.one-index one c.loop-one-test.true c.one-item.is in
    record {
      ranks =
          ranks_more (same_keys g.K.PartialEq.eq) before one c.loop-one.ranks.items c.push.new.self.items c.in_ok-rank.rank c.in_ok-push.ensures.items
          (c.in_ok-rank.ensures.count ∙ c.loop-one.invariant.counted one.key) c.loop-one.invariant.ranks
          ∙ ap (ranks (same_keys g.K.PartialEq.eq)) (sym more);
      counted =
          subst (CountsAll g.K.PartialEq.eq c.count_one.new.counts) (sym more)
          (one_counted g.met.K.Eq.laws c.loop-one.counts c.count_one.new.counts before one c.in_ok-rank.ensures.counted c.loop-one.invariant.counted);
    }
