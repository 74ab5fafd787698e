use Rattle.std.proofs.Common.{rules, take, sym, subst}
use Rattle.source_changes.specs.Matches.{CountsAll, FindsAll}
use Rattle.source_changes.proofs.Tables.{counted_within, next_taken, one_counted, one_found}
use Rattle.source_changes.proofs.matching.table.Goals as goal

pub count_one-requires : goal.count_one-requires
count_one-requires g c = counted_within g.met.K.Eq.laws c.loop-one.counts (take c.loop-one.one-index c.args.list.now) c.one-item.result.key 18446744073709551615 c.loop-one.invariant.counted (search rules)

pub loop-one-preserved : goal.loop-one-preserved
loop-one-preserved g c =
    let before = take c.loop-one.one-index c.args.list.now in
    let more = next_taken c.args.list.now c.loop-one.one-index c.one-item.result c.loop-one-test.true c.one-item.is in
    record {
      finds =
          subst (FindsAll g.K.PartialEq.eq c.insert.new.self) (sym more)
          (one_found g.met.K.Eq.laws c.loop-one.table c.insert.new.self c.loop-one.counts before _ _ c.loop-one.invariant.counted c.in_ok-place.ensures.count c.in_ok-insert.ensures.updates.0 c.loop-one.invariant.finds);
      counted =
          subst (CountsAll g.K.PartialEq.eq c.count_one.new.counts) (sym more)
          (one_counted g.met.K.Eq.laws c.loop-one.counts c.count_one.new.counts before c.one-item.result c.in_ok-place.ensures.counted c.loop-one.invariant.counted);
    }
