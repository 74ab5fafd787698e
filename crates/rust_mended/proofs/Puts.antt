-- The places of the closers that are put rise.
use Rattle.std.proofs.Common.{◌≡◌, refl, ◌∙◌, ap, sym, ℕ, zero, suc, ◌≤◌, ◌<◌, ◌+◌, ◌-◌, Bool, true, false, List, [], ◌∷◌, length, get_or, arith, min, ◌^◌, nat_le, nat_lt, IsCharBoundary}
use Rattle.std.specs.List.{prefix_len}
use Rattle.std.specs.List.Sorted.{IsNonDecreasing, IsPartitionPoint}
use Rattle.std.specs.Str.{IsUtf8}
use Rattle.rust_mended.specs.declared.edit.Edit.{Edit}
use Rattle.rust_mended.specs.declared.edit.EditKind.{EditKind}
use Rattle.rust_mended.specs.declared.edit.EditKind.TheVariants as edit
use Rattle.rust_mended.specs.Marks.{last_end, marks}
use Rattle.rust_mended.specs.Texts.{edits, past_by, place_back_by, put_by, puts_from}
use Rattle.rust_mended.specs.Steps.{EditsFit}
use Rattle.rust_mended.proofs.Order.{edits_fit}
use Rattle.rust_mended.proofs.Places.{marks_fit}

-- the edits of a text come in order, and where it may be cut
pub text_edits_fit : (text : List ℕ) → IsUtf8 text → EditsFit (IsCharBoundary text) 0 (edits text)
unfolding edits
text_edits_fit text u = edits_fit (IsCharBoundary text) (last_end text) (marks text) (marks_fit text u)

-- none is before these
abbrev pub AreAbove : ℕ → List ℕ → Type 0
AreAbove n xs = (j d : ℕ) → j < length xs → n ≤ get_or xs j d

above_by : (k : EditKind) (at p n : ℕ) (rest : ℕ → List ℕ) → at ≤ p → ((m : ℕ) → AreAbove (past_by k p + m) (rest m)) → AreAbove (at + n) (put_by k p n rest)
above_by (edit.Put b) at p n rest l h zero d i = omega arith
above_by (edit.Put b) at p n rest l h (suc j) d i = let r : p + suc n ≤ get_or (rest (suc n)) j d = h (suc n) j d (omega arith) in omega arith
above_by edit.Leave at p n rest l h j d i = let r : (p + 1) + n ≤ get_or (rest n) j d = h n j d i in omega arith
above_by (edit.Turn b) at p n rest l h j d i = let r : (p + 1) + n ≤ get_or (rest n) j d = h n j d i in omega arith

pub puts_above : (P : ℕ → Type 0) (at n : ℕ) (es : List Edit) → EditsFit P at es → AreAbove (at + n) (puts_from n es)
puts_above P at n [] h j d i = absurd (omega arith)
puts_above P at n (e ∷ es) h j d i =
    above_by e.kind at e.at n (λ m. puts_from m es) h.0 (λ m. puts_above P (past_by e.kind e.at) m es h.1.1.1) j d i

abbrev pub DoRise : List ℕ → Type 0
DoRise xs = (i j d : ℕ) → i ≤ j → j < length xs → get_or xs i d ≤ get_or xs j d

rise_by : (k : EditKind) (p n : ℕ) (rest : ℕ → List ℕ) → ((m : ℕ) → AreAbove (past_by k p + m) (rest m)) → ((m : ℕ) → DoRise (rest m)) → DoRise (put_by k p n rest)
rise_by (edit.Put b) p n rest a h zero zero d l i = omega arith
rise_by (edit.Put b) p n rest a h zero (suc j) d l i = let r : p + suc n ≤ get_or (rest (suc n)) j d = a (suc n) j d (omega arith) in omega arith
rise_by (edit.Put b) p n rest a h (suc k) zero d l i = absurd (omega arith)
rise_by (edit.Put b) p n rest a h (suc k) (suc j) d l i = h (suc n) k j d (omega arith) (omega arith)
rise_by edit.Leave p n rest a h k j d l i = h n k j d l i
rise_by (edit.Turn b) p n rest a h k j d l i = h n k j d l i

puts_rise : (P : ℕ → Type 0) (at n : ℕ) (es : List Edit) → EditsFit P at es → DoRise (puts_from n es)
puts_rise P at n [] h i j d l m = absurd (omega arith)
puts_rise P at n (e ∷ es) h i j d l m =
    rise_by e.kind e.at n (λ m. puts_from m es) (λ m. puts_above P (past_by e.kind e.at) m es h.1.1.1) (λ m. puts_rise P (past_by e.kind e.at) m es h.1.1.1) i j d l m

pub text_puts_rise : (text places : List ℕ) (es : List Edit) → IsUtf8 text → es ≡ edits text → places ≡ puts_from 0 es → IsNonDecreasing places
text_puts_rise text places es u e p = rw (p, e) (puts_rise (IsCharBoundary text) 0 0 (edits text) (text_edits_fit text u))

-- ---- places

-- where a test ends to hold
prefix_at : (p : ℕ → Bool) (xs : List ℕ) (i : ℕ) → i ≤ length xs → ((k d : ℕ) → k < i → p (get_or xs k d) ≡ true) → ((k d : ℕ) → i ≤ k → k < length xs → p (get_or xs k d) ≡ false) → prefix_len p xs ≡ i
prefix_at p [] i l f g = omega arith
prefix_at p (x ∷ xs) zero l f g = rw (g 0 0 (omega arith) (omega arith)) refl
prefix_at p (x ∷ xs) (suc i) l f g =
    let rest : prefix_len p xs ≡ i = prefix_at p xs i (omega arith) (λ k d h. f (suc k) d (omega arith)) (λ k d h m. g (suc k) d (omega arith) (omega arith)) in
    let first : p x ≡ true = f 0 0 (omega arith) in
    rw first (omega arith)

-- the place that a search by halves finds
pub point_place : (places xs : List ℕ) (at i : ℕ) → xs ≡ places → i ≤ length xs → IsPartitionPoint (λ q. nat_lt q at ≡ true) (λ q. nat_lt q at ≡ false) xs i → at - i ≡ place_back_by places at
point_place places xs at i same bound point =
    let here : prefix_len (λ q. nat_lt q at) xs ≡ i = prefix_at (λ q. nat_lt q at) xs i bound (λ k d l. point.0 k d (omega arith) l) (λ k d l m. point.1 k d l m) in
    ap (λ n. at - n) (sym here ∙ ap (prefix_len (λ q. nat_lt q at)) same)
