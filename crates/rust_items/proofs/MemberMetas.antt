-- What a member is stands neither in metas that are not wanted nor in body texts.
use Rattle.hir_input.specs.declared.ast.PlainKind.TheVariants as plain_kind
use Rattle.std.proofs.Common.{◌≡◌, ℕ, false, Option, Some, None, refl, sym, ap, ◌∙◌}
use Rattle.rust_items.proofs.MemberCommon.{ItemView, plain_item, Tokens, is_at_end, with_value, clipped_front, clipped_item, clipped_leaf, clipped_leaf_if, FrontRead, front, LeafRead, MemberTold, told_of, told_with, member_kept, leaf_member, member_behind_front, associated_item, MemberRead, Reader, leaf_behind}
use Rattle.rust_leaves.specs.declared.wanted.Wanted.{Wanted}
use Rattle.rust_leaves.specs.Kinds.{leaf}
use Rattle.rust_leaves.proofs.ClippedLeaves.{leaf_front}

told_wanted : (w : Wanted) (i : ItemView) → told_of (clipped_item w i) ≡ told_with w.metas i
told_wanted w (plain_item plain_kind.Fn n) = refl
told_wanted w _ = refl

kept_same : (w : Wanted) (start end : ℕ) (l : LeafRead) (t : Option MemberTold) → member_kept start end (clipped_leaf w l) t ≡ member_kept start end l t
unfolding clipped_leaf
kept_same w start end l None = refl
kept_same w start end l (Some t) = refl

leaf_wanted : (w : Wanted) (start : ℕ) (l : Option LeafRead) (ts : Tokens) → leaf_member told_of start (clipped_leaf_if w l) ts ≡ leaf_member (told_with w.metas) start l ts
unfolding clipped_leaf_if clipped_leaf
leaf_wanted w start None ts = refl
leaf_wanted w start (Some l) ts = ap (λ m. (m, ts)) (kept_same w start ts.past l (told_of (clipped_item w l.item)) ∙ ap (member_kept start ts.past l) (told_wanted w l.item))

-- a member without its body text, by what is wanted of what stands before it and of the item
abbrev pub member_wanted : Wanted → FrontRead → Reader (Option MemberRead)
member_wanted w h ts = leaf_member told_of h.start (leaf_behind w h ts).0 (leaf_behind w h ts).1

front_kept : (w : Wanted) (h : FrontRead) (ts : Tokens) → member_wanted w (clipped_front w h) ts ≡ member_behind_front w.metas h ts
unfolding with_value clipped_front
front_kept w h ts = ap (λ r. leaf_member told_of h.start r.0 r.1) (sym (leaf_front w h ts)) ∙ leaf_wanted w h.start (leaf h ts).0 (leaf h ts).1

-- behind what is wanted of what stands before it, a member is read with those of its metas that are wanted
pub associated_kept : (w : Wanted) (ts rest : Tokens) (h : FrontRead) → is_at_end ts ≡ false → with_value (clipped_front w) (front ts) ≡ (h, rest) → member_wanted w h rest ≡ associated_item w.metas ts
unfolding with_value associated_item
associated_kept w ts rest h e taken = ap (λ q. member_wanted w q.0 q.1) (sym taken) ∙ front_kept w (front ts).0 (front ts).1 ∙ rw e refl
