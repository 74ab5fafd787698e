-- Tokens are told by whether they are joined, and by their texts without returns.
use Rattle.std.proofs.Common.{◌≡◌, ◌↔◌, ℕ, Bool, true, false, not, if◌then◌else◌, IsTrue, List, [], ◌∷◌, ap}
use Rattle.std.specs.Bool.{beq}
use Rattle.std.proofs.lemmas.List.{append_cancel_left}

-- two flags in front of texts
pub apart_told : (a b : Bool) (x y : List ℕ) → not (beq a b) ≡ true → IsTrue false ↔ ((if a then 1 else 0) ∷ x ≡ (if b then 1 else 0) ∷ y)
apart_told true true x y e = absurd cc
apart_told true false x y e = (λ f. cc, λ f. cc)
apart_told false true x y e = (λ f. cc, λ f. cc)
apart_told false false x y e = absurd cc

pub joint_told : (a b : Bool) (x y : List ℕ) (same : Bool) → not (beq a b) ≡ false → (IsTrue same ↔ (x ≡ y)) → IsTrue same ↔ ((if a then 1 else 0) ∷ x ≡ (if b then 1 else 0) ∷ y)
joint_told true true x y same e d = (λ s. ap (λ l. 1 ∷ l) (d.0 s), λ f. d.1 (append_cancel_left (1 ∷ []) x y f))
joint_told true false x y same e d = absurd cc
joint_told false true x y same e d = absurd cc
joint_told false false x y same e d = (λ s. ap (λ l. 0 ∷ l) (d.0 s), λ f. d.1 (append_cancel_left (0 ∷ []) x y f))
