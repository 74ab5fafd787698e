-- From a place on.
use Rattle.source_listing.proofs.Common.{◌≡◌, ◌≤◌, ℕ, true, false, List, [], ◌∷◌, refl, arith, nat_lt, nat_tests, when, from_place}

-- nothing stands before the first byte
pub from_none : (ss : List ℕ) → from_place 0 ss ≡ ss
from_none [] = refl
from_none (s ∷ ss) = let here : nat_lt s 0 ≡ false = grind (arith, nat_tests) in rw here refl

before_later : (s a b : ℕ) → a ≤ b → nat_lt s a ≡ true → nat_lt s b ≡ true
before_later s a b h e = grind (arith, nat_tests)

-- from a place on, and then from a later one on
pub from_twice : (a b : ℕ) (ss : List ℕ) → a ≤ b → from_place b (from_place a ss) ≡ from_place b ss
from_twice a b [] h = refl
from_twice a b (s ∷ ss) h =
    when (nat_lt s a)
    (λ e. let later = before_later s a b h e in rw (e, later) (from_twice a b ss h))
    (λ e. rw e refl)
