use Rattle.std.proofs.Common.{◌≤◌, ◌+◌, ap, arith, length, subst, sym}
use Rattle.line_index.proofs.Counts.{AreCounted, counted_next, few_units_to, units_to}
use Rattle.line_index.proofs.point_index.counts_of.Goals as goal

pub overflow_add-count : goal.overflow_add-count
overflow_add-count c =
    let within = c.loop-at.invariant.within in
    let end : c.loop-at.at + 1024 ≤ length c.args.text.now = omega (arith, within, c.loop-at-test.true) in
    let to = units_to c.args.style c.args.text.now c.loop-at.at (c.loop-at.at + 1024) (omega arith) in
    let few = few_units_to c.args.style c.args.text.now (c.loop-at.at + 1024) end in
    omega (arith, to, few, end, c.loop-at.invariant.last, c.units_of-count.ensures, c.requires)

pub loop-at-preserved : goal.loop-at-preserved
loop-at-preserved c =
    let within = c.loop-at.invariant.within in
    subst (λ l. AreCounted c.args.style c.args.text.now (c.loop-at.at + 1024) (c.loop-at.count + c.units_of-count.result) l) (sym c.in_ok-push-2.ensures.items)
    (counted_next c.args.style c.args.text.now c.loop-at.at c.loop-at.count (c.loop-at.count + c.units_of-count.result) c.loop-at.counts.items c.loop-at.invariant (omega (arith, within, c.loop-at-test.true)) (ap (λ n. c.loop-at.count + n) c.units_of-count.ensures))
