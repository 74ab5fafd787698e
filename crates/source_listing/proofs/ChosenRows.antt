-- What is chosen of a list.
use Rattle.source_listing.proofs.Common.{◌≡◌, Bool, List, [], ◌∷◌, map, filter, refl, ap}
use Rattle.rust_cursor.proofs.TokenRests.{when}

-- what is chosen by how each is seen is seen as what is chosen of what is seen
pub filter-seen : {A B : Type 0} (see : A → B) (test : B → Bool) (xs : List A) → map see (filter (λ x. test (see x)) xs) ≡ filter test (map see xs)
filter-seen see test [] = refl
filter-seen see test (x ∷ xs) = when (test (see x)) (λ e. rw e (ap (λ ys. see x ∷ ys) (filter-seen see test xs))) (λ e. rw e (filter-seen see test xs))
