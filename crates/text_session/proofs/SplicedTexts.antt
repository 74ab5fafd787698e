-- A text with what stands in a range of it replaced.
use Rattle.std.proofs.Common.{◌≡◌, ℕ, ◌≤◌, ◌+◌, ◌-◌, ◌^◌, ◌&&◌, ◌++◌, Bool, true, false, if◌then◌else◌, List, Option, Some, None, length, take, drop, refl, sym, ap, ◌∙◌, append_assoc, arith, IsCharBoundary, is_some, nat_le, nat_lt, option_map}
use Rattle.text_session.proofs.Common.{and_parts, nat_tests, length-append, length-drop, length-take-le, drop-drop, is_boundary, is_cut, TextRange, spliced_text, is_outside, is_long, change_fault}
use Rattle.rust_items.proofs.MemberCuts.{boundary_is}
use Rattle.text_session.specs.declared.splice.ChangeFault.TheVariants.{OutsideText, CutsCharacter, TooLong}

-- ---- where a range is cut out

module _ (text : List ℕ) (range : TextRange) (cut : is_cut text range ≡ true) where
  ends_cut : (is_boundary text range.start ≡ true) × (is_boundary text range.end ≡ true)
  ends_cut = and_parts (is_boundary text range.start) (is_boundary text range.end) (and_parts (nat_le range.start range.end) (is_boundary text range.start && is_boundary text range.end) cut).1

  pub begins : IsCharBoundary text range.start
  begins = boundary_is text range.start ends_cut.0

  pub ends : IsCharBoundary text range.end
  ends = boundary_is text range.end ends_cut.1

-- a part is cut out where it can be
pub cut_tells : {A : Type 0} (o : Option A) (f : A → List ℕ) (b : Bool) (part : List ℕ) → option_map f o ≡ (if b then Some part else None) → is_some o ≡ b
cut_tells None f true part e = absurd cc
cut_tells None f false part e = refl
cut_tells (Some a) f true part e = refl
cut_tells (Some a) f false part e = absurd cc

-- ---- from another text

-- a text that begins and ends as another does is that one with a range of it replaced
pub spliced_by : (old new rest left typed : List ℕ) (range : TextRange) (len : ℕ) → rest ≡ drop range.start old → new ≡ take range.start old ++ left → left ≡ typed ++ drop len rest → range.end ≡ range.start + len → new ≡ spliced_text old range typed
spliced_by old new rest left typed range len rest_is new_is left_is end_is =
    let back : drop len rest ≡ drop range.end old = ap (drop len) rest_is ∙ drop-drop len range.start old ∙ ap (λ k. drop k old) (sym end_is) in
    new_is ∙ ap (λ xs. take range.start old ++ xs) (left_is ∙ ap (λ xs. typed ++ xs) back) ∙ sym (append_assoc (take range.start old) typed (drop range.end old))

-- ---- lengths

module _ (text : List ℕ) (range : TextRange) (new : List ℕ) (order : range.start ≤ range.end) (inside : range.end ≤ length text) where
  spliced_length : length (spliced_text text range new) ≡ (length text - (range.end - range.start)) + length new
  spliced_length =
      let all : length (spliced_text text range new) ≡ length (take range.start text ++ new) + length (drop range.end text) = length-append (take range.start text ++ new) (drop range.end text) in
      let begin : length (take range.start text ++ new) ≡ length (take range.start text) + length new = length-append (take range.start text) new in
      let front : length (take range.start text) ≡ range.start = length-take-le range.start text (omega (arith, order, inside)) in
      let back : length (drop range.end text) ≡ length text - range.end = length-drop range.end text in
      omega (arith, order, inside, all, begin, front, back)

  pub long_by : nat_lt (2 ^ 32) ((length text - (range.end - range.start)) + length new) ≡ is_long (spliced_text text range new)
  long_by = ap (nat_lt (2 ^ 32)) (sym spliced_length)

-- ---- without a fault

cut_by : (n : ℕ) (a b c : Bool) → (if a then Some (OutsideText n) else (if b then (if c then Some TooLong else None) else Some CutsCharacter)) ≡ None → b ≡ true
cut_by n true b c e = absurd cc
cut_by n false true c e = refl
cut_by n false false c e = absurd cc

-- the range is cut out
pub fault_none : (text : List ℕ) (range : TextRange) (new : List ℕ) → change_fault text range new ≡ None → is_cut text range ≡ true
fault_none text range new e = cut_by (length text) (is_outside text range) (is_cut text range) (is_long (spliced_text text range new)) e

short_by : (n : ℕ) (a b c : Bool) → (if a then Some (OutsideText n) else (if b then (if c then Some TooLong else None) else Some CutsCharacter)) ≡ None → c ≡ false
short_by n true b c e = absurd cc
short_by n false true true e = absurd cc
short_by n false true false e = refl
short_by n false false c e = absurd cc

-- and the new text is short
pub fault_short : (text : List ℕ) (range : TextRange) (new : List ℕ) → change_fault text range new ≡ None → length (spliced_text text range new) ≤ 2 ^ 32
fault_short text range new e =
    let short : is_long (spliced_text text range new) ≡ false = short_by (length text) (is_outside text range) (is_cut text range) (is_long (spliced_text text range new)) e in
    grind (arith, nat_tests, short)
