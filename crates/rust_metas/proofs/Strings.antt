-- The steps of what strings stand for.
use Rattle.std.proofs.Common.{◌≡◌, ◌==◌, ◌≤◌, ◌++◌, ◌∷◌, [], ℕ, zero, suc, false, Option, Some, None, unwrap_or, List, length, drop, get_or, refl, sym, ap, ◌∙◌, arith, option_and_then}
use Rattle.rust_metas.proofs.Common.{append_assoc, ne_eqb, prepend, escaped_character, unescaped_bytes, bytes_and_left, with_place, ended_string}

prepend-prepend : (xs ys : List ℕ) (rest : Option (List ℕ)) → prepend xs (prepend ys rest) ≡ prepend (xs ++ ys) rest
prepend-prepend xs ys None = refl
prepend-prepend xs ys (Some zs) = ap Some (sym (append_assoc xs ys zs))

-- the bytes that are left of an escape are passed over
unescaped-drop : (left : ℕ) (z : List ℕ) → unescaped_bytes left z ≡ unescaped_bytes 0 (drop left z)
unescaped-drop zero z = refl
unescaped-drop (suc left) [] = refl
unescaped-drop (suc left) (b ∷ z) = unescaped-drop left z

step : (read : Option (List ℕ × ℕ)) (out new z : List ℕ) (n : ℕ) → bytes_and_left out read ≡ Some (new, n)
    → prepend out (option_and_then (λ p. prepend p.0 (unescaped_bytes p.1 z)) read) ≡ prepend new (unescaped_bytes 0 (drop n z))
step None out new z n e = absurd cc
step (Some p) out new z n e =
    let q : List ℕ × ℕ = (new, n) in
    let bytes : out ++ p.0 ≡ new = ap (λ o. (unwrap_or o q).0) e in
    let len : p.1 ≡ n = ap (λ o. (unwrap_or o q).1) e in
    prepend-prepend out p.0 (unescaped_bytes p.1 z) ∙ ap (λ xs. prepend xs (unescaped_bytes p.1 z)) bytes ∙ ap (prepend new) (ap (λ k. unescaped_bytes k z) len ∙ unescaped-drop n z)

-- one more character
pub unescaped_more : (z rest after out new : List ℕ) (len : Option ℕ) (n : ℕ) → 1 ≤ length z → (get_or z 0 0 ≡ 34 → ⊥) → rest ≡ drop 1 z → bytes_and_left out (escaped_character (get_or z 0 0) rest) ≡ with_place new len → len ≡ Some n
    → after ≡ drop n rest → prepend new (unescaped_bytes 0 after) ≡ prepend out (unescaped_bytes 0 z)
unescaped_more [] rest after out new len n l q r e f a = absurd (omega arith)
unescaped_more (b ∷ z) rest after out new len n l q r e f a =
    let other : (b == 34) ≡ false = ne_eqb b 34 q in
    let told : bytes_and_left out (escaped_character b z) ≡ with_place new (Some n) = ap (λ k. bytes_and_left out (escaped_character b k)) (sym r) ∙ e ∙ ap (with_place new) f in
    rw other (sym (step (escaped_character b z) out new z n told ∙ ap (λ k. prepend new (unescaped_bytes 0 (drop n k))) (sym r) ∙ ap (λ k. prepend new (unescaped_bytes 0 k)) (sym a)))

none_by : (read : Option (List ℕ × ℕ)) (out new z : List ℕ) → bytes_and_left out read ≡ None → None ≡ prepend out (option_and_then (λ p. prepend p.0 (unescaped_bytes p.1 z)) read)
none_by None out new z e = refl
none_by (Some p) out new z e = absurd cc

-- no escape
pub unescaped_none : (z rest out new : List ℕ) (len : Option ℕ) → 1 ≤ length z → (get_or z 0 0 ≡ 34 → ⊥) → rest ≡ drop 1 z → bytes_and_left out (escaped_character (get_or z 0 0) rest) ≡ with_place new len → len ≡ None
    → None ≡ prepend out (unescaped_bytes 0 z)
unescaped_none [] rest out new len l q r e f = absurd (omega arith)
unescaped_none (b ∷ z) rest out new len l q r e f =
    let other : (b == 34) ≡ false = ne_eqb b 34 q in
    let told : bytes_and_left out (escaped_character b z) ≡ with_place new None = ap (λ k. bytes_and_left out (escaped_character b k)) (sym r) ∙ e ∙ ap (with_place new) f in
    rw other (none_by (escaped_character b z) out new z told)

-- the quote
pub unescaped_end : (z rest out : List ℕ) → 1 ≤ length z → get_or z 0 0 ≡ 34 → rest ≡ drop 1 z → prepend out (ended_string 0 rest) ≡ prepend out (unescaped_bytes 0 z)
unescaped_end [] rest out l q r = absurd (omega arith)
unescaped_end (b ∷ z) rest out l q r = rw (q, r) refl
