use Rattle.std.proofs.Common.{◌≤◌, ◌==◌, cond, length, length-take-le, sym, take, arith}
use Rattle.line_index.specs.Points.{begins_end}
use Rattle.line_index.proofs.Positions.{feed_few, left_on, sum_on}
use Rattle.line_index.proofs.lists.feeds.Goals as goal

pub slice_bounds-ends_of_block-end : goal.slice_bounds-ends_of_block-end
slice_bounds-ends_of_block-end c =
    let z = c.loop-left.left.now in
    let long : 192 ≤ length z = omega (arith, c.loop-left-test.true) in
    sym (length-take-le 192 z long)

pub ends_of_block-requires : goal.ends_of_block-requires
ends_of_block-requires c =
    let z = c.loop-left.left.now in
    let long : 192 ≤ length z = omega (arith, c.loop-left-test.true) in
    let short : length (take 192 z) ≤ 192 = omega (arith, length-take-le 192 z long) in
    short

pub loop-left-preserved : goal.loop-left-preserved
unfolding begins_end
loop-left-preserved c =
    let z = c.loop-left.left.now in
    let long : 192 ≤ length z = omega (arith, c.loop-left-test.true) in (
      sum_on (λ b. cond (b == 10) 1 0) c.loop-left.count c.ends_of_block.result 192 z _ c.ends_of_block.ensures c.loop-left.invariant.0,
      left_on (λ b. cond (b == 10) 1 0) feed_few c.loop-left.count c.ends_of_block.result 192 z _ long c.ends_of_block.ensures c.loop-left.invariant.1,
    )
