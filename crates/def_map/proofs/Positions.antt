-- The first place of what passes a test, element by element.
use Rattle.std.proofs.Common.{◌≡◌, ◌≢◌, ◌==◌, ◌+◌, ◌<◌, ◌≤◌, ℕ, Bool, true, false, not, nat_lt, List, [], ◌∷◌, ◌++◌, length, cond, if◌then◌else◌, Some, None, refl, sym, ap, ◌∙◌, arith, eqb-true, eq-eqb, ltb-true, lt-ltb}
use Rattle.std.specs.{List.position, List.position_or_len, Option.option_or}
use Rattle.std.proofs.lemmas.Bool.{true≢false}
use Rattle.std.proofs.lemmas.List.{length-append}
use Rattle.std.proofs.lemmas.List.Folds.{position_or_len_push}

at_most : {X : Type 0} (p : X → Bool) (xs : List X) → position_or_len p xs ≤ length xs
at_most p [] = omega arith
at_most p (x ∷ xs) = by (p x) refl (at_most p xs)
  where
    by : (b : Bool) → p x ≡ b → position_or_len p xs ≤ length xs → position_or_len p (x ∷ xs) ≤ length (x ∷ xs)
    by true e low = let at : position_or_len p (x ∷ xs) ≡ 0 = ap (λ b. cond (not b) (1 + position_or_len p xs) 0) e in omega (arith, at)
    by false e low = let at : position_or_len p (x ∷ xs) ≡ 1 + position_or_len p xs = ap (λ b. cond (not b) (1 + position_or_len p xs) 0) e in omega (arith, at, low)

not_equal : (a b : ℕ) → (a ≡ b → ⊥) → (a == b) ≡ false
not_equal a b never = by (a == b) refl
  where
    by : (x : Bool) → (a == b) ≡ x → x ≡ false
    by true e = absurd (never (eqb-true a b e))
    by false e = refl

not_less : (a b : ℕ) → (a < b → ⊥) → nat_lt a b ≡ false
not_less a b never = by (nat_lt a b) refl
  where
    by : (x : Bool) → nat_lt a b ≡ x → x ≡ false
    by true e = absurd (never (ltb-true a b e))
    by false e = refl

-- the position in one element more
module _ {X : Type 0} (p : X → Bool) (xs : List X) (y : X) where
  abbrev at : ℕ
  at = position_or_len p xs

  abbrev long : ℕ
  long = length xs

  place : (b : Bool) → (at == long) ≡ b → position_or_len p (xs ++ y ∷ []) ≡ cond b (long + cond (p y) 0 1) at
  place b e = position_or_len_push p xs y ∙ ap (λ c. cond c (long + cond (p y) 0 1) at) e

  placed : (n : ℕ) (b : Bool) → position_or_len p (xs ++ y ∷ []) ≡ n → nat_lt n (long + 1) ≡ b → position p (xs ++ y ∷ []) ≡ cond b (Some n) None
  placed n b is e = ap (λ k. cond (nat_lt k (length (xs ++ y ∷ []))) (Some k) None) is ∙ ap (λ k. cond (nat_lt n k) (Some n) None) (length-append xs (y ∷ [])) ∙ ap (λ c. cond c (Some n) None) e

  last : (b : Bool) → p y ≡ b → at ≡ long → position p (xs ++ y ∷ []) ≡ (if b then Some long else None)
  last true e same = placed long true (place true (eq-eqb at long same) ∙ ap (λ b. long + cond b 0 1) e ∙ zero_more) (lt-ltb long (long + 1) (omega arith))
    where
      zero_more : long + 0 ≡ long
      zero_more = omega arith
  last false e same = placed (long + 1) false (place true (eq-eqb at long same) ∙ ap (λ b. long + cond b 0 1) e) (not_less (long + 1) (long + 1) (λ low. omega (arith, low)))

  at_end : at ≤ long → (at < long → ⊥) → at ≡ long
  at_end most past = by (at == long) refl
    where
      by : (b : Bool) → (at == long) ≡ b → at ≡ long
      by true e = eqb-true at long e
      by false e = let apart : at ≢ long = λ same. true≢false (sym (eq-eqb at long same) ∙ e) in absurd (past (omega (arith, most, apart)))

  pub position_more : position p (xs ++ y ∷ []) ≡ option_or (position p xs) (if p y then Some long else None)
  position_more = by (nat_lt at long) refl
    where
      by : (b : Bool) → nat_lt at long ≡ b → position p (xs ++ y ∷ []) ≡ option_or (cond b (Some at) None) (if p y then Some long else None)
      by true e =
          let low : at < long = ltb-true at long e in
          placed at true (place false (not_equal at long (λ same. omega (arith, low, same)))) (lt-ltb at (long + 1) (omega (arith, low)))
      by false e = last (p y) refl (at_end (at_most p xs) (λ low. true≢false (sym (lt-ltb at long low) ∙ e)))
