use Rattle.std.proofs.Common.{◌≡◌, ◌++◌, ◌-◌, map, take, drop}
use Rattle.rust_items.proofs.MemberCommon.{moved_member, ArePlaced, member_view}
use Rattle.rust_items.proofs.members.move_members.Given as goal

abbrev pub invariant-loop-member : goal.invariant-loop-member
invariant-loop-member l = record {
  same : map member_view (take l.member-index l.members) ++ map (moved_member l.by) (map member_view (drop l.member-index l.members)) ≡ map (moved_member l.by) (map member_view l.fn.members);
  placed : ArePlaced 0 (18446744073709551615 - l.by) (map member_view (drop l.member-index l.members));
}
