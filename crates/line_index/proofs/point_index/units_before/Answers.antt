use Rattle.std.proofs.Common.{arith}
use Rattle.line_index.proofs.Counts.{counted_to, few_units_to}
use Rattle.line_index.proofs.point_index.units_before.Goals as goal

pub overflow_add-result : goal.overflow_add-result
overflow_add-result c =
    let is = counted_to c.args.style c.args.text.now c.args.counts.now c.args.at c.units_of.result c.requires.counts c.requires.within c.units_of.ensures in
    let few = few_units_to c.args.style c.args.text.now c.args.at c.requires.within in
    omega (arith, is, few, c.requires.within)

pub returns : goal.returns
returns c = counted_to c.args.style c.args.text.now c.args.counts.now c.args.at c.units_of.result c.requires.counts c.requires.within c.units_of.ensures
