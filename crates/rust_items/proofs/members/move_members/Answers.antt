use Rattle.std.proofs.Common.{◌≡◌, ◌<◌, ◌-◌, length, arith}
use Rattle.rust_items.proofs.MemberCommon.{member_view, moved_member}
use Rattle.rust_items.proofs.MemberCuts.{moved_next, placed_next}
use Rattle.rust_items.proofs.members.move_members.Goals as goal

pub loop-member-preserved : goal.loop-member-preserved
loop-member-preserved c =
    let ms = c.loop-member.members in
    let i = c.loop-member.member-index in
    let x = c.member-item.result in
    let y = c.move_member.new.member in
    let is = c.member-item.is in
    let moved = c.move_member.ensures in
    let below : i < length ms = omega arith in
    let same : member_view y ≡ moved_member c.args.by (member_view x) = cc in
    record {
      same = moved_next c.args.by ms i x y _ below is same c.loop-member.invariant.same;
      placed = placed_next (18446744073709551615 - c.args.by) ms i x y below is c.loop-member.invariant.placed;
    }
