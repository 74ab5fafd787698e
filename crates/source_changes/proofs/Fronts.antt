-- What of two lists is the same, where things that are the same stand in front of both.
use Rattle.std.proofs.Common.{◌≡◌, ℕ, suc, ◌+◌, Bool, true, false, List, [], ◌∷◌, ◌++◌, map, Some, cond, refl, ap, sym, ◌∙◌, arith, append_assoc, Bor, slice_get, count_by, filter, flat_map}
use Rattle.std.specs.Cmp.{IsEquivalence}
use Rattle.std.proofs.lemmas.List.{map-append, Sums.sum_by-cons}
use Rattle.source_changes.specs.declared.matching.{Match.Match, Match.TheVariants.Stays}
use Rattle.source_changes.specs.Matches.{partner, partners_behind, partners, gone_of, match_of, matched_behind, match_now, same_keys}

module _ {A : Type 0} {like : A → A → Bool} (laws : IsEquivalence like) where
  like_either : (a b x : A) → like a b ≡ true → like x a ≡ like x b
  like_either a b x h = laws.symm x a ∙ laws.congr a b x h ∙ laws.symm b x

  next_get : (t : Bool) (b : A) (ys : List A) (n : ℕ) → slice_get (cond t (b ∷ ys) ys) (cond t 1 0 + n) ≡ slice_get ys n
  next_get true b ys n = let one : 1 + n ≡ suc n = omega arith in ap (slice_get (b ∷ ys)) one
  next_get false b ys n = let none : 0 + n ≡ n = omega arith in ap (slice_get ys) none

  partner_next : (a b : A) → like a b ≡ true → (ys before : List A) (x : A) → partner like (b ∷ ys) (a ∷ before) x ≡ partner like ys before x
  partner_next a b h ys before x =
      ap (slice_get (filter (like x) (b ∷ ys))) (sum_by-cons (λ y. cond (like x y) 1 0) a before ∙ ap (λ t. cond t 1 0 + count_by (like x) before) (like_either a b x h))
      ∙ next_get (like x b) b (filter (like x) ys) (count_by (like x) before)

  partners_next : (a b : A) → like a b ≡ true → (ys before xs : List A) → partners_behind like (b ∷ ys) (a ∷ before) xs ≡ partners_behind like ys before xs
  partners_next a b h ys before [] = refl
  partners_next a b h ys before (x ∷ xs) = λ i. (x, partner_next a b h ys before x i) ∷ partners_next a b h ys (before ++ x ∷ []) xs i

  partners_first : (a b : A) → like a b ≡ true → (xs ys : List A) → partners like (b ∷ ys) (a ∷ xs) ≡ (a, Some b) ∷ partners like ys xs
  partners_first a b h xs ys = λ i. (a, slice_get (cond (h i) (b ∷ filter (like a) ys) (filter (like a) ys)) 0) ∷ partners_next a b h ys [] xs i

  -- the first of both lists stay
  pub first_stays : (both : List (Match A)) (a b : A) (olds news : List A) → like a b ≡ true → matched_behind like (both ++ Stays a b ∷ []) olds news ≡ matched_behind like both (a ∷ olds) (b ∷ news)
  first_stays both a b olds news h =
      ap (λ ms. flat_map gone_of (partners like news olds) ++ ms) (append_assoc both (Stays a b ∷ []) (map match_of (partners like olds news)))
      ∙ sym (λ i. flat_map gone_of (partners_first a b h olds news i) ++ (both ++ map match_of (partners_first b a (laws.symm b a ∙ h) news olds i)))

module _ {K T : Type 0} {same : K → K → Bool} (laws : IsEquivalence same) where
  pub by_key : IsEquivalence (same_keys same {T = T})
  by_key = record { refl = λ x. laws.refl x.key; symm = λ x y. laws.symm x.key y.key; congr = λ x y z. laws.congr x.key y.key z.key }

-- what is gone, what stays in front, and what the new ones are, one behind the other
pub all_matched : {A : Type 0} (like : A → A → Bool) (gone both joined all : List (Match (Bor A))) (olds news : List A) → map match_now gone ≡ flat_map gone_of (partners like news olds) → joined ≡ gone ++ both
    → map match_now all ≡ map match_now joined ++ map match_of (partners like olds news) → map match_now all ≡ matched_behind like (map match_now both) olds news
all_matched like gone both joined all olds news g j a =
    let new = map match_of (partners like olds news) in
    a ∙ ap (λ ms. map match_now ms ++ new) j ∙ ap (λ ms. ms ++ new) (map-append match_now gone both) ∙ append_assoc (map match_now gone) (map match_now both) new ∙ ap (λ ms. ms ++ (map match_now both ++ new)) g
