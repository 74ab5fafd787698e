-- The words of a text between brackets, one byte after the other.
use Rattle.std.proofs.Common.{◌≡◌, ℕ, ◌+◌, ◌-◌, ◌<◌, ◌≤◌, true, false, List, [], ◌∷◌, ◌++◌, length, get_or, take, drop, refl, ap, ◌∙◌, arith, length-drop}
use Rattle.std.proofs.lemmas.List.{drop_all, drop_more, get_or-drop, take_more}
use Rattle.language_names.specs.LanguageNames.{is_derive_gap, is_core_derive, are_core_derives}

-- the bytes from one place to another
abbrev pub part : List ℕ → ℕ → ℕ → List ℕ
part text start at = take (at - start) (drop start text)

part_more : (text : List ℕ) (start at : ℕ) → start ≤ at → at < length text → part text start (at + 1) ≡ part text start at ++ get_or text at 0 ∷ []
part_more text start at b h =
    let d = drop start text in
    let one : at + 1 - start ≡ (at - start) + 1 = omega arith in
    let here : start + (at - start) ≡ at = omega arith in
    let within : at - start < length d = omega (arith, length-drop start text) in
    ap (λ n. take n d) one ∙ take_more d (at - start) 0 within ∙ ap (λ b. take (at - start) d ++ b ∷ []) (get_or-drop start text (at - start) 0 ∙ ap (λ n. get_or text n 0) here)

-- a word ends
pub word_ends : (text : List ℕ) (start at : ℕ) → at < length text → is_derive_gap (get_or text at 0) ≡ true → is_core_derive (part text start at) ≡ true
    → are_core_derives (part text start at) (drop at text) ≡ are_core_derives [] (drop (at + 1) text)
word_ends text start at h e f = rw (drop_more text at 0 h, e, f) refl

pub word_fails : (text : List ℕ) (start at : ℕ) → at < length text → is_derive_gap (get_or text at 0) ≡ true → is_core_derive (part text start at) ≡ false
    → are_core_derives (part text start at) (drop at text) ≡ false
word_fails text start at h e f = rw (drop_more text at 0 h, e, f) refl

-- or goes on
pub word_goes_on : (text : List ℕ) (start at : ℕ) → start ≤ at → at < length text → is_derive_gap (get_or text at 0) ≡ false
    → are_core_derives (part text start at) (drop at text) ≡ are_core_derives (part text start (at + 1)) (drop (at + 1) text)
word_goes_on text start at b h e = rw (part_more text start at b h, drop_more text at 0 h, e) refl

-- nothing is left
pub no_part : (text : List ℕ) (at : ℕ) → part text at at ≡ []
no_part text at = let none : at - at ≡ 0 = omega arith in ap (λ n. take n (drop at text)) none

pub last_word : (text : List ℕ) (start : ℕ) → are_core_derives (part text start (length text)) (drop (length text) text) ≡ is_core_derive (part text start (length text))
last_word text start = rw (drop_all (length text) text (omega arith)) refl
