use Rattle.std.proofs.Common.{◌≡◌, ◌-◌}
use Rattle.rust_items.proofs.MemberCommon.{behind_type_parts, behind_type}
use Rattle.rust_items.proofs.part.pass_type.Given as goal

abbrev pub invariant-loop-turn : goal.invariant-loop-turn
invariant-loop-turn l = behind_type_parts (l.most - l._turn) l.cursor ≡ behind_type l.fn.cursor
