-- Positions in the rest of a list, and lengths of selections.
use Rattle.std.proofs.Common.{◌≡◌, ℕ, zero, suc, ◌+◌, ◌≤◌, Bool, not, Option, List, [], ◌∷◌, drop, length, length-drop, refl, ap, ◌∙◌, arith}
use Rattle.std.specs.List.{enumerate_from, filter, filter_map}
use Rattle.std.proofs.lemmas.List.{FromFn.length-enumerate_from, Filters.length-filter_both}

enumerate_from-behind : {A : Type 0} (n k : ℕ) (xs : List A) → enumerate_from (n + k) (drop k xs) ≡ drop k (enumerate_from n xs)
enumerate_from-behind n zero xs = ap (λ m. enumerate_from m xs) (omega arith)
enumerate_from-behind n (suc k) [] = refl
enumerate_from-behind n (suc k) (x ∷ xs) =
    let e : n + suc k ≡ (n + 1) + k = omega arith in
    ap (λ m. enumerate_from m (drop k xs)) e ∙ enumerate_from-behind (n + 1) k xs

-- the rest of a list from a position on, with the positions that the whole list gives
pub enumerate_from-drop : {A : Type 0} (k : ℕ) (xs : List A) → enumerate_from k (drop k xs) ≡ drop k (enumerate_from 0 xs)
enumerate_from-drop k xs = ap (λ m. enumerate_from m (drop k xs)) (omega arith) ∙ enumerate_from-behind 0 k xs

-- what is selected from a list is no longer than it
pub length-filter-le : {A : Type 0} (p : A → Bool) (xs : List A) → length (filter p xs) ≤ length xs
length-filter-le p xs = omega (arith, length-filter_both p (λ x. not (p x)) (λ _. refl) xs)

pub length-filter_map-le : {A B : Type 0} (h : A → Option B) (xs : List A) → length (filter_map h xs) ≤ length xs
length-filter_map-le h [] = omega arith
length-filter_map-le h (x ∷ xs) = grind (arith, length-filter_map-le h xs)

pub ruleset selections = (length-filter-le, length-filter_map-le)

pub ruleset positions = (enumerate_from-drop, length-enumerate_from, length-drop)
