-- Rows behind each character of a glob.
use Rattle.std.proofs.Common.{◌≡◌, ◌≢◌, ℕ, zero, suc, Bool, true, false, ◌+◌, ◌-◌, ◌<◌, ◌≤◌, ◌&&◌, ◌||◌, List, [], ◌∷◌, ◌++◌, length, length-append, drop, get_or, replicate, sym, refl, ap, subst, ◌∙◌, arith, ⊎_elim}
use Rattle.std.proofs.lemmas.List.{drop_more, drop_all, get_or_append_left, get_or-replicate, get_or_at, length-replicate}
use Rattle.std.proofs.lemmas.Bool.{eq-eqb, ne_eqb, cases_lt}
use Rattle.globs.specs.Globs.{is_used_up, is_star_next, passes, is_one, behind_some, behind_one, matches}
use Rattle.globs.specs.Inner.{is_told_at, IsRow, IsBehindOne, IsBehindSome}

one_more : (p : ℕ) (holds : List ℕ → Bool) (c : ℕ) (s : List ℕ) → behind_one (is_one p) holds (c ∷ s) ≡ (is_one p c && holds s)
unfolding behind_one
one_more p holds c s = refl

one_none : (p : ℕ) (holds : List ℕ → Bool) → behind_one (is_one p) holds [] ≡ false
unfolding behind_one
one_none p holds = refl

some_more : (d : Bool) (holds : List ℕ → Bool) (c : ℕ) (s : List ℕ) → behind_some (passes d) holds (c ∷ s) ≡ (holds (c ∷ s) || (passes d c && behind_some (passes d) holds s))
unfolding behind_some
some_more d holds c s = refl

some_none : (d : Bool) (holds : List ℕ → Bool) → behind_some (passes d) holds [] ≡ holds []
unfolding behind_some
some_none d holds = refl

-- the row of one character
one_row : (p : ℕ) (holds : List ℕ → Bool) (text : List ℕ) (old new : List Bool) → IsRow holds text old → IsBehindOne p text old new → IsRow (behind_one (is_one p) holds) text new
one_row p holds text old new was is = record {
  whole = is.whole;
  each = λ k h. ⊎_elim
      (λ (short : k < length text).
      is.each k short ∙ ap (λ b. is_one p (get_or text k 0) && b) (was.each (k + 1) (omega arith))
      ∙ sym (one_more p holds (get_or text k 0) (drop (k + 1) text))
      ∙ sym (ap (behind_one (is_one p) holds) (drop_more text k 0 short)))
      (λ (long : length text ≤ k).
      let end : k ≡ length text = omega arith in
      ap (is_told_at new) end ∙ is.last ∙ sym (one_none p holds) ∙ sym (ap (behind_one (is_one p) holds) (drop_all k text long)))
      (cases_lt k (length text));
}

-- the row of a star, from the end of the text
star_from : (d : Bool) (holds : List ℕ → Bool) (text : List ℕ) (old new : List Bool) → IsRow holds text old → IsBehindSome d text old new → (n k : ℕ) → k + n ≡ length text → is_told_at new k ≡ behind_some (passes d) holds (drop k text)
star_from d holds text old new was is zero k e =
    let end : k ≡ length text = omega arith in
    let none : drop k text ≡ [] = drop_all k text (omega arith) in
    ap (is_told_at new) end ∙ is.last ∙ ap (is_told_at old) (sym end) ∙ was.each k (omega arith) ∙ ap holds none
    ∙ sym (some_none d holds) ∙ sym (ap (behind_some (passes d) holds) none)
star_from d holds text old new was is (suc n) k e =
    let short : k < length text = omega arith in
    let more : drop k text ≡ get_or text k 0 ∷ drop (k + 1) text = drop_more text k 0 short in
    let here : is_told_at old k ≡ holds (get_or text k 0 ∷ drop (k + 1) text) = was.each k (omega arith) ∙ ap holds more in
    let next : is_told_at new (k + 1) ≡ behind_some (passes d) holds (drop (k + 1) text) = star_from d holds text old new was is n (k + 1) (omega arith) in
    is.each k short ∙ ap (λ b. b || (passes d (get_or text k 0) && is_told_at new (k + 1))) here
    ∙ ap (λ b. holds (get_or text k 0 ∷ drop (k + 1) text) || (passes d (get_or text k 0) && b)) next
    ∙ sym (some_more d holds (get_or text k 0) (drop (k + 1) text))
    ∙ sym (ap (behind_some (passes d) holds) more)

star_row : (d : Bool) (holds : List ℕ → Bool) (text : List ℕ) (old new : List Bool) → IsRow holds text old → IsBehindSome d text old new → IsRow (behind_some (passes d) holds) text new
star_row d holds text old new was is = record {
  whole = is.whole;
  each = λ k h. star_from d holds text old new was is (length text - k) k (omega arith);
}

at_star : (p : ℕ) (ps s : List ℕ) → p ≡ 42 → matches (p ∷ ps) s ≡ behind_some (passes (is_star_next ps)) (matches ps) s
unfolding matches
at_star p ps s e = rw (eq-eqb p 42 e) refl

at_other : (p : ℕ) (ps s : List ℕ) → p ≢ 42 → matches (p ∷ ps) s ≡ behind_one (is_one p) (matches ps) s
unfolding matches
at_other p ps s e = rw (ne_eqb p 42 e) refl

-- a row of what holds of the same
same_row : (holds other : List ℕ → Bool) (text : List ℕ) (row : List Bool) → ((s : List ℕ) → other s ≡ holds s) → IsRow holds text row → IsRow other text row
same_row holds other text row same is = record { whole = is.whole; each = λ k h. is.each k h ∙ sym (same (drop k text)) }

pub star_is : (p : ℕ) (ps text : List ℕ) (old new : List Bool) (d : Bool) → p ≡ 42 → d ≡ is_star_next ps → IsRow (matches ps) text old → IsBehindSome d text old new → IsRow (matches (p ∷ ps)) text new
star_is p ps text old new d e f was is =
    same_row (behind_some (passes (is_star_next ps)) (matches ps)) (matches (p ∷ ps)) text new (λ s. at_star p ps s e)
    (subst (λ (b : Bool). IsRow (behind_some (passes b) (matches ps)) text new) f (star_row d (matches ps) text old new was is))

pub other_is : (p : ℕ) (ps text : List ℕ) (old new : List Bool) → p ≢ 42 → IsRow (matches ps) text old → IsBehindOne p text old new → IsRow (matches (p ∷ ps)) text new
other_is p ps text old new e was is =
    same_row (behind_one (is_one p) (matches ps)) (matches (p ∷ ps)) text new (λ s. at_other p ps s e) (one_row p (matches ps) text old new was is)

empty_more : (c : ℕ) (s : List ℕ) → matches [] (c ∷ s) ≡ false
unfolding matches is_used_up
empty_more c s = refl

empty_none : matches [] [] ≡ true
unfolding matches is_used_up
empty_none = refl

-- the row of a glob without characters
pub last_is : (text : List ℕ) (row : List Bool) → row ≡ replicate (length text) false ++ true ∷ [] → IsRow (matches []) text row
last_is text row e =
    let whole_of : length (replicate (length text) false) ≡ length text = length-replicate (length text) false in
    record {
      whole = ap length e ∙ length-append (replicate (length text) false) (true ∷ []) ∙ ap (λ n. n + 1) whole_of;
      each = λ k h. ap (λ r. is_told_at r k) e ∙ ⊎_elim
          (λ (short : k < length text).
          let in_front : k < length (replicate (length text) false) = omega arith in
          get_or_append_left (replicate (length text) false) (true ∷ []) false k in_front ∙ get_or-replicate (length text) k false false short
          ∙ sym (empty_more (get_or text k 0) (drop (k + 1) text)) ∙ sym (ap (matches []) (drop_more text k 0 short)))
          (λ (long : length text ≤ k).
          let here : length (replicate (length text) false) ≡ k = omega arith in
          get_or_at (replicate (length text) false) true [] false k here ∙ sym empty_none ∙ sym (ap (matches []) (drop_all k text long)))
          (cases_lt k (length text));
    }

-- a glob from one place on, and from the place before
pub from_before : (glob text : List ℕ) (row : List Bool) (i : ℕ) → i < length glob → IsRow (matches (get_or glob i 0 ∷ drop (i + 1) glob)) text row → IsRow (matches (drop i glob)) text row
from_before glob text row i h is = subst (λ (g : List ℕ). IsRow (matches g) text row) (sym (drop_more glob i 0 h)) is

pub from_place : (glob text : List ℕ) (row : List Bool) (i j : ℕ) → i ≡ j → IsRow (matches (drop i glob)) text row → IsRow (matches (drop j glob)) text row
from_place glob text row i j e is = subst (λ (n : ℕ). IsRow (matches (drop n glob)) text row) e is

pub from_end : (glob text : List ℕ) (row : List Bool) → IsRow (matches []) text row → IsRow (matches (drop (length glob) glob)) text row
from_end glob text row is = subst (λ (g : List ℕ). IsRow (matches g) text row) (sym (drop_all (length glob) glob (omega arith))) is
