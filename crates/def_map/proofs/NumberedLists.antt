-- Lists in which each element has a number.
use Rattle.std.proofs.Common.{◌≡◌, ℕ, zero, suc, List, [], ◌∷◌, Option, Some, None, slice_get, refl, sym, ap, subst, ◌∙◌, length, Contains, option_map, filter_map}
use Rattle.std.specs.List.{cons_option}
use Rattle.std.proofs.lemmas.Option.{none-some, same_Some}
use Rattle.def_map.proofs.Listing.{contains_here, contains_there}

pub map_source : {X Y : Type 0} (h : X → Y) (o : Option X) (y : Y) → option_map h o ≡ Some y → (x : X) × (o ≡ Some x) × (h x ≡ y)
map_source h None y e = absurd (none-some y e)
map_source h (Some x) y e = (x, refl, same_Some (h x) y e)

-- a list in which each has a number keeps its length and its places
unfoldable pub AllNumbered : {X Y : Type 0} → (X → Option Y) → List X → Type 0
AllNumbered {X} {Y} h xs = (x : X) → Contains xs x → (y : Y) × (h x ≡ Some y)

pub kept_length : {X Y : Type 0} (h : X → Option Y) (xs : List X) → AllNumbered h xs → length (filter_map h xs) ≡ length xs
unfolding AllNumbered
kept_length h [] all = refl
kept_length h (x ∷ xs) all = let one = all x (contains_here x xs) in
    ap (λ o. length (cons_option o (filter_map h xs))) one.1 ∙ ap suc (kept_length h xs (λ y has. all y (contains_there x xs y has)))

pub kept_get : {X Y : Type 0} (h : X → Option Y) (xs : List X) (k : ℕ) (x : X) (y : Y) → AllNumbered h xs → slice_get xs k ≡ Some x → h x ≡ Some y → slice_get (filter_map h xs) k ≡ Some y
unfolding AllNumbered
kept_get h [] k x y all e is = absurd (none-some x e)
kept_get h (z ∷ xs) zero x y all e is = ap (λ o. slice_get (cons_option o (filter_map h xs)) 0) (ap h (same_Some z x e) ∙ is)
kept_get h (z ∷ xs) (suc k) x y all e is = let one = all z (contains_here z xs) in
    ap (λ o. slice_get (cons_option o (filter_map h xs)) (suc k)) one.1 ∙ kept_get h xs k x y (λ y has. all y (contains_there z xs y has)) e is

pub kept_source : {X Y : Type 0} (h : X → Option Y) (xs : List X) (k : ℕ) (y : Y) → AllNumbered h xs → slice_get (filter_map h xs) k ≡ Some y
    → (x : X) × (slice_get xs k ≡ Some x) × (h x ≡ Some y)
unfolding AllNumbered
kept_source h [] k y all e = absurd (none-some y e)
kept_source h (z ∷ xs) zero y all e = let one = all z (contains_here z xs) in
    (z, refl, one.1 ∙ ap (λ o. slice_get (cons_option o (filter_map h xs)) 0) (sym one.1) ∙ e)
kept_source h (z ∷ xs) (suc k) y all e = let one = all z (contains_here z xs) in
    kept_source h xs k y (λ y has. all y (contains_there z xs y has)) (ap (λ o. slice_get (cons_option o (filter_map h xs)) (suc k)) (sym one.1) ∙ e)

pub got : {X : Type 0} (xs : List X) (k : ℕ) (x : X) → slice_get xs k ≡ Some x → Contains xs x
got [] k x e = absurd (none-some x e)
got (z ∷ xs) zero x e = subst (Contains (z ∷ xs)) (same_Some z x e) (contains_here z xs)
got (z ∷ xs) (suc k) x e = contains_there z xs x (got xs k x e)
