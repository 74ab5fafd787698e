use Rattle.std.proofs.Common.{rules, take, sym, subst, ap, ◌∙◌}
use Rattle.source_changes.specs.Matches.{CountsAll, partners, same_keys}
use Rattle.source_changes.proofs.Tables.{counted_within, found_partner, next_taken, one_counted, pairs_more}
use Rattle.source_changes.proofs.matching.partners.Goals as goal

pub count_one-requires : goal.count_one-requires
count_one-requires g c = counted_within g.met.K.Eq.laws c.loop-one.counts (take c.loop-one.one-index c.args.list.now) c.one-item.result.key 18446744073709551615 c.loop-one.invariant.counted (search rules)

pub loop-one-preserved : goal.loop-one-preserved
loop-one-preserved g c =
    let before = take c.loop-one.one-index c.args.list.now in
    let one = c.one-item.result in
    let others = c.args.others.now in
    let more = next_taken c.args.list.now c.loop-one.one-index one c.loop-one-test.true c.one-item.is in
    let other = found_partner g.met.K.Eq.laws c.in_ok-table.table c.loop-one.counts others before one c.in_ok-place.place c.copied.result c.in_ok-table.ensures c.loop-one.invariant.counted c.in_ok-place.ensures.count (search rules) in
    record {
      pairs =
          pairs_more (same_keys g.K.PartialEq.eq) others before one c.loop-one.pairs.items c.push.new.self.items _ c.in_ok-push.ensures.items (λ i. (one, other i)) c.loop-one.invariant.pairs
          ∙ ap (partners (same_keys g.K.PartialEq.eq) others) (sym more);
      counted =
          subst (CountsAll g.K.PartialEq.eq c.count_one.new.counts) (sym more)
          (one_counted g.met.K.Eq.laws c.loop-one.counts c.count_one.new.counts before one c.in_ok-place.ensures.counted c.loop-one.invariant.counted);
    }
