-- No character of a text of UTF-8 is cut off.
use lib.Utf8.{scalars, scalar, next, encode, encodes, scalar_cases}
use Rattle.std.proofs.Common.{◌≡◌, ◌⊎◌, ◌+◌, ◌/◌, ◌<◌, ◌≤◌, ℕ, true, List, [], ◌∷◌, ◌++◌, length, IsUtf8, refl, subst, arith, nat_le, nat_lt}
use Rattle.std.proofs.lemmas.Bool.{ltb-true}
use Rattle.rust_lexer.proofs.Common.{nat_tests, behind_lead, is_full}
use Rattle.rust_lexer.proofs.Cases.{when}
use Rattle.rust_lexer.proofs.StopBytes.{both}

full_cons : (b : ℕ) (y : List ℕ) → behind_lead b ≤ length y → is_full y ≡ true → is_full (b ∷ y) ≡ true
full_cons b y l k = let t : nat_le (behind_lead b) (length y) ≡ true = grind (arith, nat_tests) in rw (t, k) refl

pub full_low : (b : ℕ) (y : List ℕ) → b < 192 → is_full y ≡ true → is_full (b ∷ y) ≡ true
full_low b y h k =
    let t : nat_lt b 192 ≡ true = grind (arith, nat_tests) in
    let none : behind_lead b ≡ 0 = rw t refl in full_cons b y (omega (arith, none)) k

follows : (x : ℕ) → next x < 192
follows x = omega arith

-- so many bytes follow at most
lead_most : (b : ℕ) → behind_lead b ≤ 3
lead_most b = grind (arith, nat_tests)

full_two : (a b : ℕ) (z : List ℕ) → a < 224 → b < 192 → is_full z ≡ true → is_full (a ∷ b ∷ z) ≡ true
full_two a b z l f k = let one : behind_lead a ≤ 1 = grind (arith, nat_tests) in full_cons a (b ∷ z) (omega (arith, one)) (full_low b z f k)

full_three : (a b d : ℕ) (z : List ℕ) → a < 240 → b < 192 → d < 192 → is_full z ≡ true → is_full (a ∷ b ∷ d ∷ z) ≡ true
full_three a b d z l f g k = let two : behind_lead a ≤ 2 = grind (arith, nat_tests) in full_cons a (b ∷ d ∷ z) (omega (arith, two)) (full_low b (d ∷ z) f (full_low d z g k))

full_four : (a b d e : ℕ) (z : List ℕ) → b < 192 → d < 192 → e < 192 → is_full z ≡ true → is_full (a ∷ b ∷ d ∷ e ∷ z) ≡ true
full_four a b d e z f g h k = full_cons a (b ∷ d ∷ e ∷ z) (omega (arith, lead_most a)) (full_low b (d ∷ e ∷ z) f (full_low d (e ∷ z) g (full_low e z h k)))

-- behind a character
pub full_char : (c : ℕ) (z : List ℕ) → c < 1114112 → is_full z ≡ true → is_full (encode c ++ z) ≡ true
unfolding encode
full_char c z top k =
    when (nat_lt c 128) (λ t. let a = ltb-true c 128 t in rw t (full_low c z (omega (arith, a)) k))
    (λ t. when (nat_lt c 2048) (λ u. let b = ltb-true c 2048 u in rw (t, u) (full_two (192 + c / 64) (next c) z (omega arith) (follows c) k))
    (λ u. when (nat_lt c 65536) (λ v. let d = ltb-true c 65536 v in rw (t, u, v) (full_three (224 + c / 4096) (next (c / 64)) (next c) z (omega arith) (follows (c / 64)) (follows c) k))
    (λ v. rw (t, u, v) (full_four (240 + c / 262144) (next (c / 4096)) (next (c / 64)) (next c) z (follows (c / 4096)) (follows (c / 64)) (follows c) k))))

pub below : (c : ℕ) → scalar c ≡ true → c < 1114112
below c e = small (scalar_cases c e)
  where
    small : (c < 55296) ⊎ ((57344 ≤ c) × (c < 1114112)) → c < 1114112
    small h = grind (arith, nat_tests)

full_of : (cs : List ℕ) → scalars cs ≡ true → is_full (encodes cs) ≡ true
full_of [] e = refl
full_of (c ∷ cs) e = let parts = both (scalar c) (scalars cs) e in full_char c (encodes cs) (below c parts.0) (full_of cs parts.1)

pub utf8_full : (z : List ℕ) → IsUtf8 z → is_full z ≡ true
utf8_full z u = subst (λ (l : List ℕ). is_full l ≡ true) u.1.1 (full_of u.0 u.1.0)
