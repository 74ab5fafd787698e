use Rattle.std.proofs.Common.{rules, ◌≡◌, false, Some, None, sym, ap, ◌∙◌}
use Rattle.rust_leaves.specs.declared.wanted.Wanted.{Wanted}
use Rattle.rust_items.proofs.MemberCommon.{leaf_behind, front_view, leaf_view, member_kept, leaf_member, told_of}
use Rattle.rust_items.proofs.MemberMetas.{associated_kept}
use Rattle.rust_items.proofs.associated.associated_item.Goals as goal

pub returns-in-Some : goal.returns-in-Some
returns-in-Some c =
    let wanted : Wanted = record { bodies = false; metas = c.args.metas } in
    let front = front_view c.in_ok-front.front in
    let read = leaf_view c.in-Some.leaf in
    let rest = c.take_leaf.new.cursor in
    let taken : leaf_behind wanted front c.wanted_front.new.cursor ≡ (Some read, rest) = search rules in
    sym (associated_kept wanted c.args.cursor.now c.wanted_front.new.cursor front (sym c.is_at_end.ensures ∙ c.if-is_at_end.false) c.in_ok-front.ensures)
    ∙ ap (λ r. leaf_member told_of front.start r.0 r.1) taken
    ∙ ap (λ n. (member_kept front.start n read (told_of read.item), rest)) (sym c.last_end-end.ensures)
    ∙ ap (λ m. (m, rest)) (sym c.member_kept.ensures)

pub returns-in-None : goal.returns-in-None
returns-in-None c =
    let wanted : Wanted = record { bodies = false; metas = c.args.metas } in
    let front = front_view c.in_ok-front.front in
    let taken : leaf_behind wanted front c.wanted_front.new.cursor ≡ (None, c.take_leaf.new.cursor) = search rules in
    sym (associated_kept wanted c.args.cursor.now c.wanted_front.new.cursor front (sym c.is_at_end.ensures ∙ c.if-is_at_end.false) c.in_ok-front.ensures)
    ∙ ap (λ r. leaf_member told_of front.start r.0 r.1) taken
    ∙ ap (λ t. (None, t)) (sym c.pass_others.ensures)
