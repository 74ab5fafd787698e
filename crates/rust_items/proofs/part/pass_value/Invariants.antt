use Rattle.std.proofs.Common.{◌≡◌, ◌-◌}
use Rattle.rust_items.proofs.MemberCommon.{behind_operands, behind_value}
use Rattle.rust_items.proofs.part.pass_value.Given as goal

abbrev pub invariant-loop-turn : goal.invariant-loop-turn
invariant-loop-turn l = behind_operands (l.most - l._turn) l.stand l.cursor ≡ behind_value l.fn.cursor
