use Rattle.std.proofs.Common.{◌≡◌, ◌-◌}
use Rattle.rust_leaves.proofs.Common.{statement_from, statement_up_to}
use Rattle.rust_leaves.proofs.statements.pass_from.Given as goal

abbrev pub invariant-loop-turn : goal.invariant-loop-turn
invariant-loop-turn l = statement_from (l.most - l._turn) l.scan l.cursor ≡ statement_up_to l.fn.from l.fn.cursor
