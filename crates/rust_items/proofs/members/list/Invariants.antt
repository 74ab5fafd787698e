use Rattle.std.proofs.Common.{◌≡◌, map, ◌-◌}
use Rattle.rust_items.proofs.MemberCommon.{turns_from, perhaps, member_turn, is_list_over, member_list, member_view}
use Rattle.rust_items.proofs.members.list.Given as goal

abbrev pub invariant-loop-turn : goal.invariant-loop-turn
invariant-loop-turn l = turns_from is_list_over (perhaps (member_turn l.metas l.kind)) (l.most - l._turn) (map member_view l.members.items) l.cursor ≡ member_list l.metas l.kind l.fn.cursor
