use Rattle.std.proofs.Common.{arith}
use Rattle.line_index.proofs.Counts.{units_to}
use Rattle.line_index.proofs.point_index.units_between.Goals as goal

pub overflow_sub-result : goal.overflow_sub-result
overflow_sub-result c =
    let to = units_to c.args.style c.args.text.now c.args.from c.args.to c.requires.order in
    omega (arith, to, c.units_before.ensures, c.units_before-2.ensures)

pub returns : goal.returns
returns c =
    let to = units_to c.args.style c.args.text.now c.args.from c.args.to c.requires.order in
    omega (arith, to, c.units_before.ensures, c.units_before-2.ensures)
