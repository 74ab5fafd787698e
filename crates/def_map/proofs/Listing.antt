-- What lists contain.
use Rattle.std.proofs.Common.{◌≡◌, ◌⊎◌, inl, inr, ⊎_elim, zero, suc, List, [], ◌∷◌, map, Option, Some, None, refl, sym, ap, subst, ◌∙◌, arith}
use Rattle.std.specs.List.{filter_map, flat_map, cons_option, Contains}
use Rattle.std.proofs.lemmas.List.Elements.{Contains-append_left, Contains-append_right, Contains-append_cases}
use Rattle.std.proofs.lemmas.Option.{none-some, same_Some}

pub contains_here : {X : Type 0} (x : X) (xs : List X) → Contains (x ∷ xs) x
contains_here x xs = (0, omega arith, refl)

pub contains_there : {X : Type 0} (x : X) (xs : List X) (y : X) → Contains xs y → Contains (x ∷ xs) y
contains_there x xs y (k, low, e) = (suc k, omega (arith, low), e)

pub contains_cases : {X : Type 0} (x : X) (xs : List X) (y : X) → Contains (x ∷ xs) y → (x ≡ y) ⊎ Contains xs y
contains_cases x xs y (zero, low, e) = inl e
contains_cases x xs y (suc k, low, e) = inr (k, omega (arith, low), e)

pub not_in_nil : {X : Type 0} (y : X) → Contains [] y → ⊥
not_in_nil y (k, low, e) = omega (arith, low)

consed : {Y : Type 0} (o : Option Y) (ys : List Y) (y : Y) → (o ≡ Some y) ⊎ Contains ys y → Contains (cons_option o ys) y
consed None ys y (inl e) = absurd (none-some y e)
consed None ys y (inr has) = has
consed (Some z) ys y (inl e) = subst (Contains (z ∷ ys)) (same_Some z y e) (contains_here z ys)
consed (Some z) ys y (inr has) = contains_there z ys y has

consed_cases : {Y : Type 0} (o : Option Y) (ys : List Y) (y : Y) → Contains (cons_option o ys) y → (o ≡ Some y) ⊎ Contains ys y
consed_cases None ys y has = inr has
consed_cases (Some z) ys y has = ⊎_elim (λ (e : z ≡ y). inl (ap Some e)) (λ (h : Contains ys y). inr h) (contains_cases z ys y has)

-- of a filter
pub contains_kept : {X Y : Type 0} (h : X → Option Y) (xs : List X) (x : X) (y : Y) → Contains xs x → h x ≡ Some y → Contains (filter_map h xs) y
contains_kept h [] x y has e = absurd (not_in_nil x has)
contains_kept h (z ∷ xs) x y has e = ⊎_elim (λ (same : z ≡ x). consed (h z) (filter_map h xs) y (inl (ap h same ∙ e)))
    (λ (more : Contains xs x). consed (h z) (filter_map h xs) y (inr (contains_kept h xs x y more e))) (contains_cases z xs x has)

pub contains_source : {X Y : Type 0} (h : X → Option Y) (xs : List X) (y : Y) → Contains (filter_map h xs) y → (x : X) × Contains xs x × (h x ≡ Some y)
contains_source h [] y has = absurd (not_in_nil y has)
contains_source h (z ∷ xs) y has = ⊎_elim (λ (e : h z ≡ Some y). (z, contains_here z xs, e))
    (λ (more : Contains (filter_map h xs) y). let s = contains_source h xs y more in (s.0, contains_there z xs s.0 s.1, s.2)) (consed_cases (h z) (filter_map h xs) y has)

-- of a map
pub contains_mapped : {X Y : Type 0} (h : X → Y) (xs : List X) (x : X) → Contains xs x → Contains (map h xs) (h x)
contains_mapped h [] x has = absurd (not_in_nil x has)
contains_mapped h (z ∷ xs) x has = ⊎_elim (λ (same : z ≡ x). subst (λ y. Contains (h z ∷ map h xs) (h y)) same (contains_here (h z) (map h xs)))
    (λ (more : Contains xs x). contains_there (h z) (map h xs) (h x) (contains_mapped h xs x more)) (contains_cases z xs x has)

pub mapped_source : {X Y : Type 0} (h : X → Y) (xs : List X) (y : Y) → Contains (map h xs) y → (x : X) × Contains xs x × (h x ≡ y)
mapped_source h [] y has = absurd (not_in_nil y has)
mapped_source h (z ∷ xs) y has = ⊎_elim (λ (e : h z ≡ y). (z, contains_here z xs, e))
    (λ (more : Contains (map h xs) y). let s = mapped_source h xs y more in (s.0, contains_there z xs s.0 s.1, s.2)) (contains_cases (h z) (map h xs) y has)

-- of lists one after another
pub contains_joined : {X Y : Type 0} (h : X → List Y) (xs : List X) (x : X) (y : Y) → Contains xs x → Contains (h x) y → Contains (flat_map h xs) y
contains_joined h [] x y has own = absurd (not_in_nil x has)
contains_joined h (z ∷ xs) x y has own = ⊎_elim (λ (same : z ≡ x). Contains-append_left (h z) (flat_map h xs) y (subst (λ w. Contains (h w) y) (sym same) own))
    (λ (more : Contains xs x). Contains-append_right (h z) (flat_map h xs) y (contains_joined h xs x y more own)) (contains_cases z xs x has)

pub joined_source : {X Y : Type 0} (h : X → List Y) (xs : List X) (y : Y) → Contains (flat_map h xs) y → (x : X) × Contains xs x × Contains (h x) y
joined_source h [] y has = absurd (not_in_nil y has)
joined_source h (z ∷ xs) y has = ⊎_elim (λ (own : Contains (h z) y). (z, contains_here z xs, own))
    (λ (more : Contains (flat_map h xs) y). let s = joined_source h xs y more in (s.0, contains_there z xs s.0 s.1, s.2)) (Contains-append_cases (h z) (flat_map h xs) y has)
