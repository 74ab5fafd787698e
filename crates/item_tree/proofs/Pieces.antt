-- Lists that stand in others.
use Rattle.std.proofs.Common.{◌≡◌, ℕ, zero, suc, ◌+◌, List, [], ◌∷◌, ◌++◌, length, Some, refl, subst, arith, add-zero, append_assoc, append-nil, length-append, slice_get}

pub get-left : {X : Type 0} (xs ys : List X) (k : ℕ) (x : X) → slice_get xs k ≡ Some x → slice_get (xs ++ ys) k ≡ Some x
get-left [] ys k x h = cc
get-left (_ ∷ xs) ys zero x h = h
get-left (_ ∷ xs) ys (suc k) x h = get-left xs ys k x h

pub get-at-seam : {X : Type 0} (us : List X) (x : X) (vs : List X) → slice_get (us ++ x ∷ vs) (length us) ≡ Some x
get-at-seam [] x vs = refl
get-at-seam (u ∷ us) x vs = get-at-seam us x vs

-- ys stands in xs from the place k on
abbrev pub HasFrom : {A : Type 0} → List A → ℕ → List A → Type 0
HasFrom xs k [] = Unit {0}
HasFrom xs k (y ∷ ys) = (slice_get xs k ≡ Some y) × HasFrom xs (k + 1) ys

pub HasFrom-left : {A : Type 0} (xs : List A) (k : ℕ) (us vs : List A) → HasFrom xs k (us ++ vs) → HasFrom xs k us
HasFrom-left xs k [] vs h = tt
HasFrom-left xs k (u ∷ us) vs h = (h.0, HasFrom-left xs (k + 1) us vs h.1)

pub HasFrom-right : {A : Type 0} (xs : List A) (k : ℕ) (us vs : List A) → HasFrom xs k (us ++ vs) → HasFrom xs (k + length us) vs
HasFrom-right xs k [] vs h = rw add-zero h
HasFrom-right xs k (u ∷ us) vs h =
    let e : k + suc (length us) ≡ (k + 1) + length us = omega arith in
    rw e (HasFrom-right xs (k + 1) us vs h.1)

pub HasFrom-append : {A : Type 0} (us vs ws : List A) → HasFrom (us ++ (vs ++ ws)) (length us) vs
HasFrom-append us [] ws = tt
HasFrom-append us (v ∷ vs) ws =
    let h : HasFrom ((us ++ v ∷ []) ++ (vs ++ ws)) (length (us ++ v ∷ [])) vs = HasFrom-append (us ++ v ∷ []) vs ws in
    let e : length (us ++ v ∷ []) ≡ length us + 1 = omega (arith, length-append us (v ∷ [])) in
    let a : (us ++ v ∷ []) ++ (vs ++ ws) ≡ us ++ v ∷ (vs ++ ws) = append_assoc us (v ∷ []) (vs ++ ws) in
    (get-at-seam us v (vs ++ ws), subst (λ k. HasFrom (us ++ v ∷ (vs ++ ws)) k vs) e (subst (λ zs. HasFrom zs (length (us ++ v ∷ [])) vs) a h))

pub HasFrom-all : {A : Type 0} (xs : List A) → HasFrom xs 0 xs
HasFrom-all xs = subst (λ zs. HasFrom zs 0 xs) (append-nil xs) (HasFrom-append [] xs [])
