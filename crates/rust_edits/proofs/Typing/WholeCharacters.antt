-- No character of a text of UTF-8 is cut off, with returns or without them.
use Rattle.rust_edits.proofs.Common.{nat_lt, slice_index, is_full, is_continuation, is_return, with_feeds, common_steps, and_parts, nat_tests, when, ltb-true}
use lib.Utf8.{scalars, scalar, next, encode, encodes}
use Rattle.rust_lexer.proofs.WholeCharacters.{below, full_char, full_low}
use Rattle.std.proofs.Common.{◌≡◌, ◌+◌, ◌/◌, ◌<◌, ◌≤◌, ◌==◌, ℕ, true, false, List, [], ◌∷◌, ◌++◌, IsUtf8, refl, sym, ap, ◌∙◌, subst, arith}

-- ---- one character

-- a byte past ASCII is no return
high_kept : (a : ℕ) (z : List ℕ) → 128 ≤ a → with_feeds (a ∷ z) ≡ a ∷ with_feeds z
high_kept a z h = let other : (a == 13) ≡ false = grind (arith, nat_tests) in rw other refl

next_kept : (x : ℕ) (y z : List ℕ) → with_feeds y ≡ z → with_feeds (next x ∷ y) ≡ next x ∷ z
next_kept x y z e = high_kept (next x) y (omega arith) ∙ ap (λ l. next x ∷ l) e

char_kept : (c : ℕ) (z : List ℕ) → nat_lt c 128 ≡ false → with_feeds (encode c ++ z) ≡ encode c ++ with_feeds z
unfolding encode
char_kept c z t =
    when (nat_lt c 2048) (λ u. rw (t, u) (high_kept (192 + c / 64) (next c ∷ z) (omega arith) ∙ ap (λ l. (192 + c / 64) ∷ l) (next_kept c z _ refl)))
    (λ u. when (nat_lt c 65536) (λ v. rw (t, u, v) (high_kept (224 + c / 4096) (next (c / 64) ∷ next c ∷ z) (omega arith)
    ∙ ap (λ l. (224 + c / 4096) ∷ l) (next_kept (c / 64) (next c ∷ z) _ (next_kept c z _ refl))))
    (λ v. rw (t, u, v) (high_kept (240 + c / 262144) (next (c / 4096) ∷ next (c / 64) ∷ next c ∷ z) (omega arith)
    ∙ ap (λ l. (240 + c / 262144) ∷ l) (next_kept (c / 4096) (next (c / 64) ∷ next c ∷ z) _ (next_kept (c / 64) (next c ∷ z) _ (next_kept c z _ refl))))))

-- what is shorter than two bytes may be a return
full_one : (c : ℕ) (z : List ℕ) → c < 128 → is_full (with_feeds z) ≡ true → is_full (with_feeds (c ∷ z)) ≡ true
full_one c z h k = when (is_return c z) (λ r. rw r k) (λ r. rw r (full_low c (with_feeds z) (omega arith) k))

full_both : (c : ℕ) (z : List ℕ) → c < 1114112 → is_full (with_feeds z) ≡ true → is_full (with_feeds (encode c ++ z)) ≡ true
unfolding encode
full_both c z top k =
    when (nat_lt c 128) (λ t. rw t (full_one c z (ltb-true c 128 t) k))
    (λ t. subst (λ l. is_full l ≡ true) (sym (char_kept c z t)) (full_char c (with_feeds z) top k))

-- ---- all

full_of : (cs : List ℕ) → scalars cs ≡ true → is_full (with_feeds (encodes cs)) ≡ true
full_of [] e = refl
full_of (c ∷ cs) e = let parts = and_parts (scalar c) (scalars cs) e in full_both c (encodes cs) (below c parts.0) (full_of cs parts.1)

pub feeds_full : (z : List ℕ) → IsUtf8 z → is_full (with_feeds z) ≡ true
feeds_full z u = subst (λ (l : List ℕ). is_full (with_feeds l) ≡ true) u.1.1 (full_of u.0 u.1.0)

-- ---- the first byte

-- no byte in the middle of a character stands in front
lead_one : (c : ℕ) (z : List ℕ) → c < 128 → is_continuation (slice_index (with_feeds (c ∷ z)) 0) ≡ false
lead_one c z h = grind (arith, common_steps)

lead_high : (a : ℕ) (z : List ℕ) → 192 ≤ a → is_continuation (slice_index (with_feeds (a ∷ z)) 0) ≡ false
lead_high a z l = rw (high_kept a z (omega (arith, l))) (grind (arith, nat_tests))

lead_char : (c : ℕ) (z : List ℕ) → is_continuation (slice_index (with_feeds (encode c ++ z)) 0) ≡ false
unfolding encode
lead_char c z =
    when (nat_lt c 128) (λ t. rw t (lead_one c z (ltb-true c 128 t)))
    (λ t. when (nat_lt c 2048) (λ u. rw (t, u) (lead_high (192 + c / 64) (next c ∷ z) (omega arith)))
    (λ u. when (nat_lt c 65536) (λ v. rw (t, u, v) (lead_high (224 + c / 4096) (next (c / 64) ∷ next c ∷ z) (omega arith)))
    (λ v. rw (t, u, v) (lead_high (240 + c / 262144) (next (c / 4096) ∷ next (c / 64) ∷ next c ∷ z) (omega arith)))))

lead_of : (cs : List ℕ) → is_continuation (slice_index (with_feeds (encodes cs)) 0) ≡ false
lead_of [] = refl
lead_of (c ∷ cs) = lead_char c (encodes cs)

pub feeds_lead : (z : List ℕ) → IsUtf8 z → is_continuation (slice_index (with_feeds z) 0) ≡ false
feeds_lead z u = subst (λ (l : List ℕ). is_continuation (slice_index (with_feeds l) 0) ≡ false) u.1.1 (lead_of u.0)
