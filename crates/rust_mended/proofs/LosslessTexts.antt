-- The mended text is the text, but for the closers that were put and the bytes that were replaced.
use Rattle.std.proofs.Common.{◌≡◌, refl, ◌∙◌, ap, sym, ℕ, suc, ◌≤◌, ◌+◌, ◌-◌, ◌==◌, true, false, if◌then◌else◌, List, [], ◌∷◌, ◌++◌, length, take, drop, arith, append_assoc, slice_range, IsCharBoundary, length-append, length-drop}
use Rattle.std.proofs.Math.Seq.{take-add}
use Rattle.std.proofs.lemmas.Bool.{eqb-false, ne_eqb, true_from_ne_false}
use Rattle.std.proofs.lemmas.List.{drop-drop, length-take-le}
use Rattle.std.proofs.lemmas.List.Folds.{drop_split}
use Rattle.std.specs.List.{filter}
use Rattle.std.specs.Str.{IsUtf8}
use Rattle.rust_mended.specs.declared.edit.Edit.{Edit}
use Rattle.rust_mended.specs.declared.edit.EditKind.{EditKind}
use Rattle.rust_mended.specs.declared.edit.EditKind.TheVariants as edit
use Rattle.rust_mended.specs.Texts.{with_edits, edits, is_turn, mended_text, past_by, put_by, puts, puts_from, sign, turned_text, without_bytes_at}
use Rattle.rust_mended.specs.Steps.{EditsFit}
use Rattle.rust_mended.proofs.Order.{before_fits}
use Rattle.rust_mended.proofs.Puts.{AreAbove, puts_above, text_edits_fit}

abbrev turns : List Edit → List Edit
turns es = filter (λ e. is_turn e.kind) es

-- ---- parts of a text

slices_join : (text : List ℕ) (at p q : ℕ) → at ≤ p → p ≤ q → slice_range text at p ++ slice_range text p q ≡ slice_range text at q
slices_join text at p q l m =
    let whole : (p - at) + (q - p) ≡ q - at = omega arith in
    let mid : at + (p - at) ≡ p = omega arith in
    sym (sym (ap (λ n. take n (drop at text)) whole) ∙ take-add (p - at) (q - p) (drop at text)
    ∙ ap (λ z. take (p - at) (drop at text) ++ take (q - p) z) (drop-drop (p - at) at text ∙ ap (λ n. drop n text) mid))

pub length_slice : (text : List ℕ) (at p : ℕ) → at ≤ p → p ≤ length text → length (slice_range text at p) ≡ p - at
length_slice text at p l m = let long = length-drop at text in length-take-le (p - at) (drop at text) (omega (arith, long))

-- a part before edits
slice_edited : (P : ℕ → Type 0) (text : List ℕ) (at p : ℕ) (es : List Edit) → at ≤ p → EditsFit P p es → slice_range text at p ++ with_edits text p es ≡ with_edits text at es
slice_edited P text at p [] l h = sym (drop_split text at p l)
slice_edited P text at p (e ∷ es) l h =
    let rest : List ℕ = sign e.kind ∷ with_edits text (past_by e.kind e.at) es in
    sym (append_assoc (slice_range text at p) (slice_range text p e.at) rest) ∙ ap (λ z. z ++ rest) (slices_join text at p e.at l h.0)

-- ---- without what was put

without_none : (at : ℕ) (z : List ℕ) → without_bytes_at at [] z ≡ z
without_none at [] = refl
without_none at (b ∷ z) = refl

without_append : (at n : ℕ) (ps x y : List ℕ) → n ≡ at + length x → AreAbove n ps → without_bytes_at at ps (x ++ y) ≡ x ++ without_bytes_at n ps y
without_append at n ps [] y e h = let same : at ≡ n = omega arith in ap (λ m. without_bytes_at m ps y) same
without_append at n [] (b ∷ x) y e h = sym (ap (λ z. b ∷ (x ++ z)) (without_none n y))
without_append at n (p ∷ ps) (b ∷ x) y e h =
    let above : n ≤ p = h 0 0 (omega arith) in
    let other : (at == p) ≡ false = ne_eqb at p (omega arith) in
    rw other (ap (λ z. b ∷ z) (without_append (at + 1) n (p ∷ ps) x y (omega arith) h))

without_first : (at : ℕ) (ps : List ℕ) (b : ℕ) (z : List ℕ) → without_bytes_at at (at ∷ ps) (b ∷ z) ≡ without_bytes_at (at + 1) ps z
without_first at ps b z = let same : (at == at) ≡ true = true_from_ne_false (at == at) (λ e. eqb-false at at e refl) in rw same refl

-- at an edit that replaces a byte
without_turn : (text : List ℕ) (P : ℕ → Type 0) (at n : ℕ) (e : Edit) (es : List Edit) (k : EditKind) (b : ℕ) → e.kind ≡ k → at ≤ e.at → e.at ≤ length text → EditsFit P (e.at + 1) es → AreAbove (e.at + n) (puts_from n es)
    → ((m : ℕ) → without_bytes_at ((e.at + 1) + m) (puts_from m es) (with_edits text (e.at + 1) es) ≡ with_edits text (e.at + 1) (turns es))
    → without_bytes_at (at + n) (puts_from n es) (slice_range text at e.at ++ (b ∷ with_edits text (e.at + 1) es)) ≡ slice_range text at e.at ++ (b ∷ with_edits text (e.at + 1) (turns es))
without_turn text P at n e es k b p l m f a h =
    let long = length_slice text at e.at l m in
    without_append (at + n) (e.at + n) (puts_from n es) (slice_range text at e.at) (b ∷ with_edits text (e.at + 1) es) (omega (arith, long, l)) a
    ∙ ap (λ z. slice_range text at e.at ++ z)
    (without_append (e.at + n) ((e.at + 1) + n) (puts_from n es) (b ∷ []) (with_edits text (e.at + 1) es) (omega arith) (puts_above P (e.at + 1) n es f) ∙ ap (λ z. b ∷ z) (h n))

-- the same at an edit, by its kind
without_by : (text : List ℕ) (P : ℕ → Type 0) (at n : ℕ) (e : Edit) (es : List Edit) (k : EditKind) → e.kind ≡ k → at ≤ e.at → e.at ≤ length text → EditsFit P (past_by k e.at) es → EditsFit P (past_by k e.at) (turns es)
    → AreAbove (e.at + n) (put_by k e.at n (λ m. puts_from m es))
    → ((m : ℕ) → without_bytes_at (past_by k e.at + m) (puts_from m es) (with_edits text (past_by k e.at) es) ≡ with_edits text (past_by k e.at) (turns es))
    → without_bytes_at (at + n) (put_by k e.at n (λ m. puts_from m es)) (slice_range text at e.at ++ (sign k ∷ with_edits text (past_by k e.at) es)) ≡ with_edits text at (if is_turn k then e ∷ turns es else turns es)
without_by text P at n e es (edit.Put b) p l m f g a h =
    let long = length_slice text at e.at l m in
    let next : (e.at + n) + 1 ≡ e.at + suc n = omega arith in
    without_append (at + n) (e.at + n) ((e.at + n) ∷ puts_from (suc n) es) (slice_range text at e.at) (sign (edit.Put b) ∷ with_edits text e.at es) (omega (arith, long, l)) a
    ∙ ap (λ z. slice_range text at e.at ++ z) (without_first (e.at + n) (puts_from (suc n) es) (sign (edit.Put b)) (with_edits text e.at es) ∙ ap (λ i. without_bytes_at i (puts_from (suc n) es) (with_edits text e.at es)) next ∙ h (suc n))
    ∙ slice_edited P text at e.at (turns es) l g
without_by text P at n e es edit.Leave p l m f g a h = rw p (without_turn text P at n e es edit.Leave 32 p l m f a h)
without_by text P at n e es (edit.Turn b) p l m f g a h = rw p (without_turn text P at n e es (edit.Turn b) (sign (edit.Turn b)) p l m f a h)

turns_by : (P : ℕ → Type 0) (at : ℕ) (e : Edit) (es : List Edit) (k : EditKind) → e.kind ≡ k → at ≤ e.at → P e.at → P (past_by k e.at) → EditsFit P (past_by k e.at) es → EditsFit P at (if is_turn k then e ∷ es else es)
turns_by P at e es (edit.Put b) p l x y h = before_fits P at e.at es l h
turns_by P at e es edit.Leave p l x y h = (l, (x, rw p (y, h)))
turns_by P at e es (edit.Turn b) p l x y h = (l, (x, rw p (y, h)))

turns_fit : (P : ℕ → Type 0) (at : ℕ) (es : List Edit) → EditsFit P at es → EditsFit P at (turns es)
turns_fit P at [] h = tt
turns_fit P at (e ∷ es) h = turns_by P at e (turns es) e.kind refl h.0 h.1.0 h.1.1.0 (turns_fit P (past_by e.kind e.at) es h.1.1.1)

lossless : (text : List ℕ) (at n : ℕ) (es : List Edit) → EditsFit (IsCharBoundary text) at es → without_bytes_at (at + n) (puts_from n es) (with_edits text at es) ≡ with_edits text at (turns es)
lossless text at n [] h = without_none (at + n) (drop at text)
lossless text at n (e ∷ es) h =
    let P : ℕ → Type 0 = IsCharBoundary text in
    without_by text P at n e es e.kind refl h.0 h.1.0.0 h.1.1.1 (turns_fit P (past_by e.kind e.at) es h.1.1.1)
    (puts_above P e.at n (e ∷ es) (omega arith, h.1)) (λ m. lossless text (past_by e.kind e.at) m es h.1.1.1)

length_by : (text : List ℕ) (at : ℕ) (e : Edit) (es : List Edit) (k : EditKind) → e.kind ≡ k → at ≤ e.at → e.at ≤ length text → past_by k e.at ≤ length text → ((p : ℕ) → p ≡ past_by k e.at → length (with_edits text p es) + p ≡ length text)
    → (k ≡ e.kind → is_turn k ≡ false → length (with_edits text at es) + at ≡ length text)
    → length (with_edits text at (if is_turn k then e ∷ es else es)) + at ≡ length text
length_by text at e es (edit.Put b) p l m q h g = g (sym p) refl
length_by text at e es edit.Leave p l m q h g =
    let long = length_slice text at e.at l m in
    let rest = h (e.at + 1) refl in
    let all = length-append (slice_range text at e.at) (32 ∷ with_edits text (e.at + 1) es) in
    rw p (omega (arith, long, rest, all, l, q))
length_by text at e es (edit.Turn b) p l m q h g =
    let long = length_slice text at e.at l m in
    let rest = h (e.at + 1) refl in
    let all = length-append (slice_range text at e.at) (sign (edit.Turn b) ∷ with_edits text (e.at + 1) es) in
    rw p (omega (arith, long, rest, all, l, q))

-- single bytes are replaced by single bytes
length_turned : (text : List ℕ) (at : ℕ) (es : List Edit) → at ≤ length text → EditsFit (IsCharBoundary text) at es → length (with_edits text at (turns es)) + at ≡ length text
length_turned text at [] l h = let long = length-drop at text in omega (arith, long, l)
length_turned text at (e ∷ es) l h =
    length_by text at e (turns es) e.kind refl h.0 h.1.0.0 h.1.1.0.0
    (λ p q. rw q (length_turned text (past_by e.kind e.at) es h.1.1.0.0 h.1.1.1))
    (λ _ k. length_turned text at es l (put_rest e.kind e.at h.0 h.1.1.1 k))
  where
    put_rest : (k : EditKind) (p : ℕ) → at ≤ p → EditsFit (IsCharBoundary text) (past_by k p) es → is_turn k ≡ false → EditsFit (IsCharBoundary text) at es
    put_rest (edit.Put b) p l h f = before_fits (IsCharBoundary text) at p es l h
    put_rest edit.Leave p l h f = let low : at ≤ p + 1 = omega arith in before_fits (IsCharBoundary text) at (p + 1) es low h
    put_rest (edit.Turn b) p l h f = let low : at ≤ p + 1 = omega arith in before_fits (IsCharBoundary text) at (p + 1) es low h

-- ---- texts

pub text_lossless : (text : List ℕ) → IsUtf8 text → without_bytes_at 0 (puts text) (mended_text text) ≡ turned_text text
unfolding puts mended_text turned_text
text_lossless text u = lossless text 0 0 (edits text) (text_edits_fit text u)

pub text_length : (text : List ℕ) → IsUtf8 text → length (turned_text text) ≡ length text
unfolding turned_text
text_length text u = let all = length_turned text 0 (edits text) (omega arith) (text_edits_fit text u) in omega (arith, all)
