use Rattle.std.proofs.Common.{arith}
use Rattle.line_index.proofs.Positions.{earlier, lines_before}
use Rattle.line_index.proofs.lists.position_back.Goals as goal

pub overflow_sub-result : goal.overflow_sub-result
overflow_sub-result c =
    let is = lines_before c.args.units c.args.text.now c.args.from c.args.at c.args.here c.feeds-feeds.result c.requires.here c.requires.earlier c.feeds-feeds.ensures in
    omega (arith, is)

pub returns : goal.returns
returns c =
    earlier c.args.units c.args.text.now c.args.from c.args.at c.args.here c.feeds-feeds.result c.column_back.result c.requires.here c.requires.earlier c.feeds-feeds.ensures c.column_back.ensures
