use Rattle.std.proofs.Common.{◌≤◌, length, length-take-le, sym, take, arith}
use Rattle.line_index.specs.Points.{column_units}
use Rattle.line_index.proofs.Positions.{sum_on, left_on, column_units_few, column_units_within}
use Rattle.line_index.proofs.bytes.units_of.Goals as goal

pub slice_bounds-units_of_block-end : goal.slice_bounds-units_of_block-end
slice_bounds-units_of_block-end c =
    let z = c.loop-left.left.now in
    let long : 96 ≤ length z = omega (arith, c.loop-left-test.true) in
    sym (length-take-le 96 z long)

pub units_of_block-requires : goal.units_of_block-requires
units_of_block-requires c =
    let z = c.loop-left.left.now in
    let long : 96 ≤ length z = omega (arith, c.loop-left-test.true) in
    let short : length (take 96 z) ≤ 96 = omega (arith, length-take-le 96 z long) in
    short

pub loop-left-preserved : goal.loop-left-preserved
loop-left-preserved c =
    let z = c.loop-left.left.now in
    let long : 96 ≤ length z = omega (arith, c.loop-left-test.true) in (
      sum_on (column_units c.args.style) c.loop-left.count c.units_of_block.result 96 z _ c.units_of_block.ensures c.loop-left.invariant.0,
      left_on (column_units c.args.style) (column_units_few c.args.style) c.loop-left.count c.units_of_block.result 96 z _ long c.units_of_block.ensures c.loop-left.invariant.1,
    )

pub overflow_add-count : goal.overflow_add-count
overflow_add-count c =
    let z = c.loop-left.left.now in
    let long : 96 ≤ length z = omega (arith, c.loop-left-test.true) in
    let front = length-take-le 96 z long in
    let most = column_units_within c.args.style (take 96 z) in
    omega (arith, front, most, c.units_of_block.ensures, c.loop-left.invariant.1)
