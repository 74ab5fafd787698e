-- Places in the mended text lead back in their order, and into the text.
use Rattle.std.proofs.Common.{◌≡◌, ℕ, suc, ◌≤◌, ◌<◌, ◌+◌, ◌-◌, true, false, List, [], ◌∷◌, length, arith, nat_lt, slice_range, IsCharBoundary, length-append, length-drop, ⊎_elim}
use Rattle.std.proofs.lemmas.Bool.{cases_Bool}
use Rattle.std.proofs.lemmas.Bool.Decides.{nat_tests}
use Rattle.std.specs.List.{prefix_len}
use Rattle.std.specs.Str.{IsUtf8}
use Rattle.rust_mended.specs.declared.edit.Edit.{Edit}
use Rattle.rust_mended.specs.declared.edit.EditKind.{EditKind}
use Rattle.rust_mended.specs.declared.edit.EditKind.TheVariants as edit
use Rattle.rust_mended.specs.Texts.{with_edits, edits, mended_text, past_by, place_back, put_by, puts, puts_from, sign}
use Rattle.rust_mended.specs.Steps.{EditsFit}
use Rattle.rust_mended.proofs.LosslessTexts.{length_slice}
use Rattle.rust_mended.proofs.Puts.{text_edits_fit}

-- how many of these places are before one
abbrev before : ℕ → List ℕ → ℕ
before at places = prefix_len (λ q. nat_lt q at) places

-- each is behind those before it, and none before this one
abbrev Rise : ℕ → List ℕ → Type 0
Rise n [] = Unit {0}
Rise n (p ∷ ps) = (n ≤ p) × Rise (p + 1) ps

rise_by : (k : EditKind) (at p n : ℕ) (rest : ℕ → List ℕ) → at ≤ p → ((m i : ℕ) → i ≤ past_by k p + m → Rise i (rest m)) → (i : ℕ) → i ≤ at + n → Rise i (put_by k p n rest)
rise_by (edit.Put b) at p n rest l h i m = (omega arith, h (suc n) ((p + n) + 1) (omega arith))
rise_by edit.Leave at p n rest l h i m = h n i (omega arith)
rise_by (edit.Turn b) at p n rest l h i m = h n i (omega arith)

puts_rise : (P : ℕ → Type 0) (at n : ℕ) (es : List Edit) → EditsFit P at es → (i : ℕ) → i ≤ at + n → Rise i (puts_from n es)
puts_rise P at n [] h i l = tt
puts_rise P at n (e ∷ es) h i l =
    rise_by e.kind at e.at n (λ m. puts_from m es) h.0 (λ m j k. puts_rise P (past_by e.kind e.at) m es h.1.1.1 j k) i l

below_lt : (p q : ℕ) → nat_lt p q ≡ true → p < q
below_lt p q e = grind (arith, nat_tests)

not_below_le : (p q : ℕ) → nat_lt p q ≡ false → q ≤ p
not_below_le p q e = grind (arith, nat_tests)

lt_below : (p q : ℕ) → p < q → nat_lt p q ≡ true
lt_below p q l = grind (arith, nat_tests)

few_before : (n q : ℕ) (ps : List ℕ) → Rise n ps → before q ps ≤ q - n
few_before n q [] h = omega arith
few_before n q (p ∷ ps) h =
    let first : n ≤ p = h.0 in
    let rest : before q ps ≤ q - (p + 1) = few_before (p + 1) q ps h.1 in
    ⊎_elim (λ (e : nat_lt p q ≡ true). let l = below_lt p q e in rw e (omega arith)) (λ (e : nat_lt p q ≡ false). rw e (omega arith)) (cases_Bool (nat_lt p q))

-- as many more at most as the places are apart
more_before : (n m q : ℕ) (ps : List ℕ) → m ≤ q → Rise n ps → before q ps ≤ before m ps + (q - m)
more_before n m q [] l h = omega arith
more_before n m q (p ∷ ps) l h =
    let first : n ≤ p = h.0 in
    let few : before q ps ≤ q - (p + 1) = few_before (p + 1) q ps h.1 in
    let rest : before q ps ≤ before m ps + (q - m) = more_before (p + 1) m q ps l h.1 in
    ⊎_elim (λ (e : nat_lt p m ≡ true). let low = below_lt p m e in rw (e, lt_below p q (omega arith)) (omega arith))
    (λ (e : nat_lt p m ≡ false). let high = not_below_le p m e in
    rw e (⊎_elim (λ (f : nat_lt p q ≡ true). let low = below_lt p q f in rw f (omega arith)) (λ (f : nat_lt p q ≡ false). rw f (omega arith)) (cases_Bool (nat_lt p q))))
    (cases_Bool (nat_lt p m))

pub places_rise : (text : List ℕ) (m q : ℕ) → IsUtf8 text → m ≤ q → place_back text m ≤ place_back text q
unfolding place_back puts
places_rise text m q u l =
    let rise : Rise 0 (puts_from 0 (edits text)) = puts_rise (IsCharBoundary text) 0 0 (edits text) (text_edits_fit text u) 0 (omega arith) in
    let few : before m (puts_from 0 (edits text)) ≤ m - 0 = few_before 0 m (puts_from 0 (edits text)) rise in
    let more = more_before 0 m q (puts_from 0 (edits text)) l rise in
    omega (arith, few, more, l)

-- ---- into the text

within_by : (text : List ℕ) (at n q : ℕ) (k : EditKind) (p : ℕ) (es : List Edit) → at ≤ p → p ≤ length text
    → ((m : ℕ) → q ≤ (past_by k p + m) + length (with_edits text (past_by k p) es) → q ≤ (length text + m) + before q (puts_from m es))
    → q ≤ (at + n) + length (slice_range text at p) + suc (length (with_edits text (past_by k p) es))
    → q ≤ (length text + n) + before q (put_by k p n (λ m. puts_from m es))
within_by text at n q (edit.Put b) p es l m h g =
    let long = length_slice text at p l m in
    ⊎_elim (λ (e : nat_lt (p + n) q ≡ true). let rest = h (suc n) (omega (arith, long, g, l)) in rw e (omega (arith, rest)))
    (λ (e : nat_lt (p + n) q ≡ false). let high = not_below_le (p + n) q e in rw e (omega (arith, high, m)))
    (cases_Bool (nat_lt (p + n) q))
within_by text at n q edit.Leave p es l m h g = let long = length_slice text at p l m in h n (omega (arith, long, g, l))
within_by text at n q (edit.Turn b) p es l m h g = let long = length_slice text at p l m in h n (omega (arith, long, g, l))

within : (text : List ℕ) (at n q : ℕ) (es : List Edit) → at ≤ length text → EditsFit (IsCharBoundary text) at es → q ≤ (at + n) + length (with_edits text at es) → q ≤ (length text + n) + before q (puts_from n es)
within text at n q [] l h g = let long = length-drop at text in omega (arith, long, g, l)
within text at n q (e ∷ es) l h g =
    let all = length-append (slice_range text at e.at) (sign e.kind ∷ with_edits text (past_by e.kind e.at) es) in
    within_by text at n q e.kind e.at es h.0 h.1.0.0 (λ m k. within text (past_by e.kind e.at) m q es h.1.1.0.0 h.1.1.1 k) (omega (arith, all, g))

pub places_within : (text : List ℕ) (q : ℕ) → IsUtf8 text → q ≤ length (mended_text text) → place_back text q ≤ length text
unfolding place_back puts mended_text
places_within text q u l =
    let all = within text 0 0 q (edits text) (omega arith) (text_edits_fit text u) (omega (arith, l)) in omega (arith, all)
