use Rattle.std.proofs.Common.{rules, ◌≡◌, ◌-◌, ◌∙◌, List, ap, length, map, subst, sym}
use Rattle.std.specs.Vec.{with_items}
use Rattle.std.proofs.lemmas.List.{with_items_is}
use Rattle.rust_items.proofs.MemberCommon.{ArePlaced, Member, member_view, moved_member}
use Rattle.rust_items.proofs.MemberPlacing.{part_fits, part_moved}
use Rattle.rust_items.proofs.members.read_members.Goals as goal

pub move_members-requires : goal.move_members-requires
move_members-requires c =
    let fits = part_fits c.args.metas c.args.edition c.args.kind c.args.text.now c.in-Some.braces.now c.args.body c.in-Some.ensures (map member_view c.in_ok-members-in-Some.members.items) c.in_ok-members-in-Some.ensures (search rules) in
    subst (λ (ms : List Member). ArePlaced 0 (18446744073709551615 - c.args.body.start) (map member_view ms)) (sym c.deref_mut.ensures.value) fits

pub returns-in_ok-members-in-Some-clause-placed : goal.returns-in_ok-members-in-Some-clause-placed
returns-in_ok-members-in-Some-clause-placed c =
    let given = c.in_ok-members-in-Some.members in
    let moved = c.move_members.new.members in
    let long : length moved ≡ given.len = search rules in
    let is = with_items_is given moved long in
    let told = ap (map member_view) is ∙ c.move_members.ensures ∙ ap (λ (ms : List Member). map (moved_member c.args.body.start) (map member_view ms)) c.deref_mut.ensures.value in
    part_moved c.args.metas c.args.edition c.args.kind c.args.text.now c.in-Some.braces.now c.args.body c.in-Some.ensures (map member_view given.items) c.in_ok-members-in-Some.ensures (map member_view (with_items given moved).items) told
