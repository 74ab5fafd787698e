-- what was found behind a place
use Rattle.std.proofs.Common.{◌<◌, length, arith}
use Rattle.source_session.proofs.Common.{nat_tests}
use Rattle.source_session.proofs.Finders.{scope_later}
use Rattle.source_session.proofs.scopes.declared_from.Goals as goal

pub returns-then-not-is_empty : goal.returns-then-not-is_empty
returns-then-not-is_empty c =
    let some : 0 < length c.declared_first-left.result.now = grind (arith, nat_tests, c.is_empty.ensures, c.if-not-is_empty.true) in
    scope_later c.args.id c.min.result c.args.declarations.now c.declared_first-left.result.now c.requires some c.declared_first-left.ensures
