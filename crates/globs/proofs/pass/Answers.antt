use Rattle.globs.proofs.Rows.{star_is, other_is}
use Rattle.globs.proofs.pass.Goals as goal

pub returns-then-p-eq42 : goal.returns-then-p-eq42
returns-then-p-eq42 c =
    star_is c.args.p c.args.rest.now c.args.path.now c.args.row.now c.pass_star.new.row c.is_star_next.result c.if-p-eq42.true c.is_star_next.ensures c.requires
    c.pass_star.ensures

pub returns : goal.returns
returns c = other_is c.args.p c.args.rest.now c.args.path.now c.args.row.now c.pass_one.new.row c.if-p-eq42.false c.requires c.pass_one.ensures
