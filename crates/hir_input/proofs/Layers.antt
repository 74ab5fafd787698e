-- What holds of two values of a type that holds itself, from what holds of their layers.
use Rattle.std.proofs.Common.{◌≡◌, Bool, sym, ◌∙◌, subst, Decides}
use Rattle.hir_input.proofs.Common.{Decides-at, Decides-like}

-- a test of two layers decides whether those that are rolled of them are seen as one
pub rolled_decide : {T L V : Type 0} (roll : L → T) (view : T → V) {seen : L → V} → ((x : L) → view (roll x) ≡ seen x) → (x z : L) (r t : Bool) → r ≡ t → Decides t (seen x ≡ seen z) → Decides r (view (roll x) ≡ view (roll z))
rolled_decide roll view same x z r t e d =
    Decides-like r (λ s. same x ∙ s ∙ sym (same z)) (λ s. sym (same x) ∙ s ∙ same z) (Decides-at r t e d)

-- what holds of a rolled layer and all others holds of it and all values
pub of_rolled : {T L : Type 0} (P : T → T → Type 0) (roll : L → T) (out : T → L) → ((b : T) → roll (out b) ≡ b) → {x y : L} → y ≡ x → ((z : L) → P (roll y) (roll z)) → (b : T) → P (roll x) b
of_rolled P roll out is {x} e holds b = subst (P (roll x)) (is b) (subst (λ w. P (roll w) (roll (out b))) e (holds (out b)))
