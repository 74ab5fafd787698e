-- What globs stand for.
use Rattle.std.specs.Prelude.{ℕ, Bool, true, false, ◌==◌, ◌&&◌, ◌||◌, not, if◌then◌else◌, List, [], ◌∷◌}

unfoldable pub is_used_up : List ℕ → Bool
is_used_up [] = true
is_used_up (c ∷ s) = false

-- whether the rest of a glob begins with a star, so that a star before it is one of two
unfoldable pub is_star_next : List ℕ → Bool
is_star_next [] = false
is_star_next (p ∷ ps) = p == 42

-- what a star passes over: all but a slash, and one of two stars a slash too
unfoldable pub passes : Bool → ℕ → Bool
passes is_double c = is_double || not (c == 47)

-- what another character stands for: a question mark for all but a slash, and each other one for itself
unfoldable pub is_one : ℕ → ℕ → Bool
is_one p c = if p == 63 then not (c == 47) else (p == c)

-- whether something holds of a text behind some characters that are passed over
unfoldable pub behind_some : (ℕ → Bool) → (List ℕ → Bool) → List ℕ → Bool
behind_some over holds [] = holds []
behind_some over holds (c ∷ s) = holds (c ∷ s) || (over c && behind_some over holds s)

-- whether something holds of a text behind one character, which has to fit
unfoldable pub behind_one : (ℕ → Bool) → (List ℕ → Bool) → List ℕ → Bool
behind_one is holds [] = false
behind_one is holds (c ∷ s) = is c && holds s

-- whether a glob stands for a whole text
unfoldable pub matches : List ℕ → List ℕ → Bool
matches [] s = is_used_up s
matches (p ∷ ps) s =
    if p == 42 then behind_some (passes (is_star_next ps)) (matches ps) s
    else behind_one (is_one p) (matches ps) s
