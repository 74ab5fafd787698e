-- What the loops over a row have done so far.
use Rattle.std.proofs.Common.{◌≡◌, ◌≢◌, ℕ, Bool, false, ◌+◌, ◌<◌, ◌≤◌, ◌&&◌, ◌||◌, List, length, get_or, sym, refl, ap, ◌∙◌, arith, ⊎_elim}
use Rattle.std.proofs.Math.ListN.{set, length-set}
use Rattle.std.proofs.lemmas.List.{get_or-set_same, get_or-set_other}
use Rattle.std.proofs.lemmas.Bool.{cases_eq}
use Rattle.globs.specs.Globs.{passes, is_one}
use Rattle.globs.specs.Inner.{is_told_at, IsBehindOne, IsBehindSome}

-- one character, up to a place
pub record PartOne (p : ℕ) (text : List ℕ) (old row : List Bool) (i : ℕ) : Type 0 where
  pub whole : length row ≡ length text + 1
  pub done : (k : ℕ) → k < i → is_told_at row k ≡ (is_one p (get_or text k 0) && is_told_at old (k + 1))
  pub left : (k : ℕ) → i ≤ k → is_told_at row k ≡ is_told_at old k

pub one_start : (p : ℕ) (text : List ℕ) (row : List Bool) → length row ≡ length text + 1 → PartOne p text row row 0
one_start p text row h = record { whole = h; done = λ k l. absurd (omega arith); left = λ k l. refl }

pub one_next : (p : ℕ) (text : List ℕ) (old row : List Bool) (i : ℕ) (b : Bool) → i < length text → b ≡ (is_one p (get_or text i 0) && is_told_at row (i + 1)) → PartOne p text old row i → PartOne p text old (set row i b) (i + 1)
one_next p text old row i b h e was = record {
  whole = simp length-set was.whole;
  done = λ k l. ⊎_elim
      (λ (s : k ≡ i).
      let short : i < length row = omega (arith, was.whole) in
      ap (is_told_at (set row i b)) s ∙ get_or-set_same row i b false short ∙ e
      ∙ ap (λ x. is_one p (get_or text i 0) && x) (was.left (i + 1) (omega arith))
      ∙ ap (λ n. is_one p (get_or text n 0) && is_told_at old (n + 1)) (sym s))
      (λ (o : k ≢ i). get_or-set_other row i k b false o ∙ was.done k (omega arith))
      (cases_eq k i);
  left = λ k l. let o : k ≢ i = omega arith in get_or-set_other row i k b false o ∙ was.left k (omega arith);
}

pub one_end : (p : ℕ) (text : List ℕ) (old row : List Bool) (n i : ℕ) → n ≡ length text → i ≡ length text → PartOne p text old row i → IsBehindOne p text old (set row n false)
one_end p text old row n i e f was = record {
  whole = simp length-set was.whole;
  last = let short : n < length row = omega (arith, was.whole) in ap (is_told_at (set row n false)) (sym e) ∙ get_or-set_same row n false false short;
  each = λ k h. let o : k ≢ n = omega arith in get_or-set_other row n k false false o ∙ was.done k (omega arith);
}

-- a star, from a place on
pub record PartSome (is_double : Bool) (text : List ℕ) (old row : List Bool) (i : ℕ) : Type 0 where
  pub within : i ≤ length text
  pub whole : length row ≡ length text + 1
  pub last : is_told_at row (length text) ≡ is_told_at old (length text)
  pub done : (k : ℕ) → i ≤ k → k < length text → is_told_at row k ≡ (is_told_at old k || (passes is_double (get_or text k 0) && is_told_at row (k + 1)))
  pub left : (k : ℕ) → k < i → is_told_at row k ≡ is_told_at old k

pub some_start : (is_double : Bool) (text : List ℕ) (row : List Bool) → length row ≡ length text + 1 → PartSome is_double text row row (length text)
some_start is_double text row h = record { within = omega arith; whole = h; last = refl; done = λ k l m. absurd (omega arith); left = λ k l. refl }

pub some_next : (is_double : Bool) (text : List ℕ) (old row : List Bool) (j i : ℕ) (b : Bool) → j ≡ i + 1 → b ≡ (is_told_at row i || (passes is_double (get_or text i 0) && is_told_at row (i + 1))) → PartSome is_double text old row j → PartSome is_double text old (set row i b) i
some_next is_double text old row j i b n e was =
    let in_text : i < length text = omega (arith, was.within) in
    let short : i < length row = omega (arith, was.whole) in
    let other : (k : ℕ) → k ≢ i → is_told_at (set row i b) k ≡ is_told_at row k = λ k o. get_or-set_other row i k b false o in
    record {
      within = omega arith;
      whole = simp length-set was.whole;
      last = let o : length text ≢ i = omega arith in other (length text) o ∙ was.last;
      done = λ k l m.
          let next : k + 1 ≢ i = omega arith in
          ⊎_elim
          (λ (s : k ≡ i).
          ap (is_told_at (set row i b)) s ∙ get_or-set_same row i b false short ∙ e
          ∙ ap (λ x. x || (passes is_double (get_or text i 0) && is_told_at row (i + 1))) (was.left i (omega arith))
          ∙ ap (λ n. is_told_at old n || (passes is_double (get_or text n 0) && is_told_at row (n + 1))) (sym s)
          ∙ ap (λ x. is_told_at old k || (passes is_double (get_or text k 0) && x)) (sym (other (k + 1) next)))
          (λ (o : k ≢ i).
          other k o ∙ was.done k (omega arith) m
          ∙ ap (λ x. is_told_at old k || (passes is_double (get_or text k 0) && x)) (sym (other (k + 1) next)))
          (cases_eq k i);
      left = λ k l. let o : k ≢ i = omega arith in other k o ∙ was.left k (omega arith);
    }

pub some_end : (is_double : Bool) (text : List ℕ) (old row : List Bool) (i : ℕ) → i ≡ 0 → PartSome is_double text old row i → IsBehindSome is_double text old row
some_end is_double text old row i e was = record { whole = was.whole; last = was.last; each = λ k h. was.done k (omega arith) h }
