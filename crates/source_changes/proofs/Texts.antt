-- Lists of texts.
use Rattle.std.proofs.Common.{◌≡◌, ℕ, Bool, List, ◌↔◌, IsTrue, nat_eq, Decides, ap, refl, ◌&&◌, not, true, false}
use Rattle.std.specs.Cmp.Lexicographic.{pointwise, pointwise_decides}
use Rattle.source_changes.specs.declared.kept.Hole.{Hole}
use Rattle.source_changes.proofs.Common.{Decides-and, Decides-eqb, Decides-like, same_from_decides, same_text, same_texts}

texts_decide : (a b : List ℕ) → Decides (same_text a b) (a ≡ b)
texts_decide = pointwise_decides Decides-eqb

pub text_told : (a b : List ℕ) (r : Bool) → r ≡ pointwise nat_eq a b → (IsTrue r ↔ (a ≡ b))
text_told a b r e = rw e (texts_decide a b)

pub tested_same : (xs ys : List (List ℕ)) (r : Bool) → (IsTrue r ↔ (xs ≡ ys)) → r ≡ same_texts xs ys
tested_same xs ys r d = same_from_decides r (same_texts xs ys) d (pointwise_decides texts_decide xs ys)

-- ---- parts

abbrev pub is_hole : Hole → Hole → Bool
is_hole a b = nat_eq a.start b.start && nat_eq a.end b.end

hole_decides : (a b : Hole) → Decides (is_hole a b) (a ≡ b)
hole_decides a b = Decides-like _ (λ p i. record { start = p.0 i; end = p.1 i }) (λ e. (ap (λ h. h.start) e, ap (λ h. h.end) e)) (Decides-and _ _ (Decides-eqb a.start b.start) (Decides-eqb a.end b.end))

pub hole_told : (a b : Hole) → not (is_hole a b) ≡ false → a ≡ b
hole_told a b e = (hole_decides a b).0 (is_true (is_hole a b) e)
  where
    is_true : (t : Bool) → not t ≡ false → IsTrue t
    is_true true e = refl
    is_true false e = absurd cc

pub holes_told : (a b : List Hole) (r : Bool) → r ≡ pointwise is_hole a b → (IsTrue r ↔ (a ≡ b))
holes_told a b r e = rw e (pointwise_decides hole_decides a b)
