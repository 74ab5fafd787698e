use Rattle.std.proofs.Common.{◌≡◌, ◌-◌}
use Rattle.source_rows.proofs.Common.{type_from, type_read}
use Rattle.source_rows.proofs.types.type_read.Given as goal

abbrev pub invariant-loop-turn : goal.invariant-loop-turn
invariant-loop-turn l = type_from (l.most - l._turn) l.read l.cursor ≡ type_read l.fn.cursor
