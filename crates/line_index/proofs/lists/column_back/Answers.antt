use Rattle.std.proofs.Common.{arith}
use Rattle.line_index.specs.Inner.{shown_at}
use Rattle.line_index.proofs.Positions.{column_before}
use Rattle.line_index.proofs.lists.column_back.Goals as goal

pub overflow_sub-result : goal.overflow_sub-result
overflow_sub-result c =
    let is = column_before c.args.units c.args.text.now c.args.from c.args.at c.args.here c.args.feeds c.units_of.result c.list_style.result c.requires.here c.requires.earlier c.if-feeds-eq0.true c.requires.feeds c.list_style.ensures c.units_of.ensures in
    omega (arith, is)

pub returns-then-feeds-eq0 : goal.returns-then-feeds-eq0
returns-then-feeds-eq0 c =
    let is = column_before c.args.units c.args.text.now c.args.from c.args.at c.args.here c.args.feeds c.units_of.result c.list_style.result c.requires.here c.requires.earlier c.if-feeds-eq0.true c.requires.feeds c.list_style.ensures c.units_of.ensures in
    omega (arith, is)

pub returns : goal.returns
unfolding shown_at
returns c = c.column_behind.ensures
