-- Counts and last places below a bound.
use Rattle.std.proofs.Common.{◌≡◌, ◌≢◌, ℕ, zero, suc, ◌+◌, ◌<◌, ◌≤◌, Bool, true, false, cond, ◌∙◌, ap, sym, refl, arith, Option, Some, None, IfSome, ⊎_elim}
use Rattle.rust_ids.proofs.Common.{cases_eq, cases_Bool, count_below, last_below}

-- two tests that agree on all places but one
one_of : Bool → ℕ
one_of b = cond b 1 0

pub count_below_same : (p q : ℕ → Bool) (n : ℕ) → ((j : ℕ) → j < n → p j ≡ q j) → count_below p n ≡ count_below q n
count_below_same p q zero h = refl
count_below_same p q (suc n) h =
    let below : count_below p n ≡ count_below q n = count_below_same p q n (λ j l. h j (omega arith)) in
    let here : p n ≡ q n = h n (omega arith) in
    ap (λ k. k + cond (p n) 1 0) below ∙ ap (λ b. count_below q n + cond b 1 0) here

pub count_below_one : (p q : ℕ → Bool) (k n : ℕ) → k < n → p k ≡ false → q k ≡ true → ((j : ℕ) → j < n → j ≢ k → q j ≡ p j) →
    count_below q n ≡ count_below p n + 1
count_below_one p q k zero l off on rest = omega arith
count_below_one p q k (suc n) l off on rest = ⊎_elim
    (λ (e : k ≡ n).
    let same : count_below q n ≡ count_below p n = count_below_same q p n (λ j m. rest j (omega arith) (omega arith)) in
    let q-here : q n ≡ true = ap q (sym e) ∙ on in
    let p-here : p n ≡ false = ap p (sym e) ∙ off in
    ap (λ b. count_below q n + cond b 1 0) q-here ∙ (ap (λ m. m + 1) same ∙ (let z : count_below p n + 1 ≡ count_below p n + 0 + 1 = omega arith in z ∙ ap (λ b. count_below p n + cond b 1 0 + 1) (sym p-here))))
    (λ (ne : k ≡ n → _).
    let below : count_below q n ≡ count_below p n + 1 = count_below_one p q k n (omega arith) off on (λ j m. rest j (omega arith)) in
    let here : q n ≡ p n = rest n (omega arith) (λ e. ne (sym e)) in
    ap (λ b. count_below q n + cond b 1 0) here ∙ (let z : count_below q n + cond (p n) 1 0 ≡ count_below p n + cond (p n) 1 0 + 1 = omega arith in z))
    (cases_eq k n)

pub count_below_le : (p q : ℕ → Bool) (n : ℕ) → ((j : ℕ) → j < n → p j ≡ true → q j ≡ true) → count_below p n ≤ count_below q n
count_below_le p q zero h = omega arith
count_below_le p q (suc n) h =
    let below : count_below p n ≤ count_below q n = count_below_le p q n (λ j l. h j (omega arith)) in
    let here : p n ≡ true → q n ≡ true = h n (omega arith) in
    grind arith

pub count_below_lt : (p q : ℕ → Bool) (k n : ℕ) → k < n → p k ≡ false → q k ≡ true → ((j : ℕ) → j < n → p j ≡ true → q j ≡ true) →
    count_below p n < count_below q n
count_below_lt p q k zero l off on h = omega arith
count_below_lt p q k (suc n) l off on h = ⊎_elim
    (λ (e : k ≡ n).
    let below : count_below p n ≤ count_below q n = count_below_le p q n (λ j m. h j (omega arith)) in
    let q-here : q n ≡ true = ap q (sym e) ∙ on in
    let p-here : p n ≡ false = ap p (sym e) ∙ off in
    grind arith)
    (λ (ne : k ≡ n → _).
    let below : count_below p n < count_below q n = count_below_lt p q k n (omega arith) off on (λ j m. h j (omega arith)) in
    let here : p n ≡ true → q n ≡ true = h n (omega arith) in
    grind arith)
    (cases_eq k n)

pub count_below_bound : (p : ℕ → Bool) (n : ℕ) → count_below p n ≤ n
count_below_bound p zero = omega arith
count_below_bound p (suc n) = let below : count_below p n ≤ n = count_below_bound p n in grind arith

pub count_below_none : (p : ℕ → Bool) (n : ℕ) → ((j : ℕ) → p j ≡ false) → count_below p n ≡ 0
count_below_none p zero h = refl
count_below_none p (suc n) h = let below : count_below p n ≡ 0 = count_below_none p n h in let here : p n ≡ false = h n in grind arith

-- the last place is below the bound and passes
pub last_below_is : (p : ℕ → Bool) (n : ℕ) → IfSome (last_below p n) (λ j. (j < n) × (p j ≡ true))
last_below_is p zero = tt
last_below_is p (suc n) = ⊎_elim
    (λ (e : p n ≡ true). rw e (omega arith, e))
    (λ (e : p n ≡ false). rw e (wider (last_below p n) (last_below_is p n)))
    (cases_Bool (p n))
  where
    wider : (o : Option ℕ) → IfSome o (λ j. (j < n) × (p j ≡ true)) → IfSome o (λ j. (j < suc n) × (p j ≡ true))
    wider None h = tt
    wider (Some j) h = let l : j < n = h.0 in (omega arith, h.1)
