-- Lists made of lists.
use Rattle.decl_index.proofs.Common.{not, filter, refl, All-filter, Contains-append_cases, Contains-permutation, IsPermutation-filter_both, filter_passes, ◌≡◌, inl, inr, true, Bool, List, [], ◌∷◌, ◌++◌, All, Contains, AllByRecursion, Ordering, Less, flat_map, All-nil, All-cons, All-head, All-tail, All-append, All-weaker, All-contains, All-contains_itself, Contains-append_left, Contains-append_right, IsStrictlySortedBy}

module _ {A B : Type 0} (f : B → List A) where
  pub flat_map_all : (P : A → Type 0) (bs : List B) → All (λ b. All P (f b)) bs → All P (flat_map f bs)
  flat_map_all P [] h = All-nil P
  flat_map_all P (b ∷ bs) h = All-append P (f b) (flat_map f bs) (All-head (λ b. All P (f b)) b bs h) (flat_map_all P bs (All-tail (λ b. All P (f b)) b bs h))

  abbrev Reaches : List B → B → Type 0
  Reaches bs b = (x : A) → Contains (f b) x → Contains (flat_map f bs) x

  each_reaches : (bs : List B) → All (Reaches bs) bs
  each_reaches [] = All-nil (Reaches [])
  each_reaches (b ∷ bs) =
      All-cons (Reaches (b ∷ bs)) b bs (Contains-append_left (f b) (flat_map f bs))
      (All-weaker (Reaches bs) (Reaches (b ∷ bs)) (λ c h x i. Contains-append_right (f b) (flat_map f bs) x (h x i)) bs (each_reaches bs))

  pub flat_map_contains : (bs : List B) (b : B) (x : A) → Contains bs b → Contains (f b) x → Contains (flat_map f bs) x
  flat_map_contains bs b x c = All-contains (Reaches bs) bs b (each_reaches bs) c x

module _ {A : Type 0} (cmp : A → A → Ordering) where
  all_append : (P : A → Type 0) (xs ys : List A) → AllByRecursion P xs → AllByRecursion P ys → AllByRecursion P (xs ++ ys)
  all_append P [] ys h k = k
  all_append P (x ∷ xs) ys h k = (h.0, all_append P xs ys h.1 k)

  -- lists in order, of which each element of the one is below each of the other
  pub sorted_append : (xs ys : List A) → IsStrictlySortedBy cmp xs → IsStrictlySortedBy cmp ys → All (λ x. AllByRecursion (λ y. cmp x y ≡ Less) ys) xs → IsStrictlySortedBy cmp (xs ++ ys)
  unfolding IsStrictlySortedBy
  sorted_append [] ys h k below = k
  sorted_append (x ∷ xs) ys h k below =
      (all_append (λ y. cmp x y ≡ Less) xs ys h.0 (All-head (λ x. AllByRecursion (λ y. cmp x y ≡ Less) ys) x xs below), sorted_append xs ys h.1 k (All-tail (λ x. AllByRecursion (λ y. cmp x y ≡ Less) ys) x xs below))

module _ {A : Type 0} (p : A → Bool) (xs : List A) (x : A) where
  pub filter_contains : Contains xs x → p x ≡ true → Contains (filter p xs) x
  filter_contains c t = elim (Contains-append_cases (filter p xs) (filter (λ y. not (p y)) xs) x (Contains-permutation xs _ x (IsPermutation-filter_both p (λ y. not (p y)) (λ y. refl) xs) c)) as (λ _. Contains (filter p xs) x) [
    | inl i ↦ i
    | inr i ↦ let u : not (p x) ≡ true = All-contains (λ y. not (p y) ≡ true) _ x (filter_passes (λ y. not (p y)) xs) i in absurd (cc)
  ]

  pub filter_from : Contains (filter p xs) x → Contains xs x × (p x ≡ true)
  filter_from c = (
    All-contains (Contains xs) (filter p xs) x (All-filter p (Contains xs) xs (All-contains_itself xs)) c,
    All-contains (λ y. p y ≡ true) (filter p xs) x (filter_passes p xs) c,
  )
