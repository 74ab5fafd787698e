use Rattle.std.proofs.Common.{◌≡◌, ◌++◌, map, take}
use Rattle.rust_items.specs.MemberViews.{member_view}
use Rattle.source_changes.specs.Parts.{member_part}
use Rattle.source_changes.specs.Views.{part_view}
use Rattle.source_changes.proofs.text_parts.push_members.Given as goal

abbrev pub invariant-loop-member : goal.invariant-loop-member
invariant-loop-member l = map part_view l.parts.items ≡ map part_view l.initial.parts.items ++ map (member_part l.text l.path l.hidden) (map member_view (take l.member-index l.members))
