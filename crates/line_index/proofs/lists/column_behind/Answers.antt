use Rattle.std.proofs.Common.{arith, length, length-take, ◌-◌}
use Rattle.line_index.proofs.Positions.{behind_feed, behind_other}
use Rattle.line_index.proofs.lists.column_behind.Goals as goal

pub returns-then-byte-eq10 : goal.returns-then-byte-eq10
returns-then-byte-eq10 c =
    let last = behind_feed c.args.units c.args.start c.loop-left.left.now c.in-len1-up.len_at_least c.if-byte-eq10.true in
    omega (arith, last, c.loop-left.invariant.0)

pub loop-left-preserved : goal.loop-left-preserved
loop-left-preserved c =
    let last = behind_other c.args.units c.args.start c.loop-left.left.now c.in-len1-up.len_at_least c.if-byte-eq10.false in
    let short = length-take (length c.loop-left.left.now - 1) c.loop-left.left.now in
    (omega (arith, last, c.loop-left.invariant.0, c.byte_units.ensures.value), omega (arith, short, c.loop-left.invariant.1, c.in-len1-up.len_at_least, c.byte_units.ensures.few))
