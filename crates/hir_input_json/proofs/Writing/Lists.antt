-- A list made item by item.
use Rattle.std.proofs.Common.{◌≡◌, ◌<◌, ◌≤◌, ◌+◌, ℕ, List, [], ◌∷◌, ◌++◌, map, drop, length, get_or, Option, Some, None, refl, sym, ap, ◌∙◌}
use Rattle.std.proofs.lemmas.List.{drop_more, drop_all}
use Rattle.serde_json.specs.Data.{Data, Items, no_items, item}
use Rattle.serde_json.specs.View.{view, items_view}
use Rattle.serde_json.specs.declared.value.Value.{Value}
use Rattle.hir_input_json.proofs.Writing.Common.{after, joined_items, led_items}

-- all is done
pub after_all : (vs : List Value) → after (map view vs) no_items ≡ items_view vs
after_all [] = refl
after_all (v ∷ vs) = ap (item (view v)) (after_all vs)

after_push : (vs : List Value) (v : Value) (ds : Items) → after (map view (vs ++ v ∷ [])) ds ≡ after (map view vs) (item (view v) ds)
after_push [] v ds = refl
after_push (w ∷ vs) v ds = ap (item (view w)) (after_push vs v ds)

-- nothing is done
pub joined_nil : (o : Option Items) → joined_items [] o ≡ o
joined_nil None = refl
joined_nil (Some ds) = refl

pub joined_push : (vs : List Value) (v : Value) (o : Option Items) → joined_items (map view vs) (led_items (Some (view v)) o) ≡ joined_items (map view (vs ++ v ∷ [])) o
joined_push vs v None = refl
joined_push vs v (Some ds) = ap Some (sym (after_push vs v ds))

-- a list is made of its items
abbrev pub MadeBy : {T : Type 0} → (List T → Option Items) → (T → Option Data) → Type 0
MadeBy {T} all one = (x : T) (xs : List T) → all (x ∷ xs) ≡ led_items (one x) (all xs)

-- one more is done
pub one_more : {T : Type 0} (all : List T → Option Items) (one : T → Option Data) → MadeBy all one → (o : Option Items) (xs : List T) (i : ℕ) (x : T) (vs : List Value) (v : Value)
    → i < length xs → o ≡ joined_items (map view vs) (all (drop i xs)) → one (get_or xs i x) ≡ Some (view v) → o ≡ joined_items (map view (vs ++ v ∷ [])) (all (drop (i + 1) xs))
one_more all one made o xs i x vs v within so_far is =
    so_far ∙ ap (λ ys. joined_items (map view vs) (all ys)) (drop_more xs i x within) ∙ ap (joined_items (map view vs)) (made (get_or xs i x) (drop (i + 1) xs))
    ∙ ap (λ d. joined_items (map view vs) (led_items d (all (drop (i + 1) xs)))) is ∙ joined_push vs v (all (drop (i + 1) xs))

-- nothing is left
pub none_left : {T : Type 0} (all : List T → Option Items) → all [] ≡ Some no_items → (o : Option Items) (xs : List T) (i : ℕ) (vs : List Value)
    → length xs ≤ i → o ≡ joined_items (map view vs) (all (drop i xs)) → o ≡ Some (items_view vs)
none_left all none o xs i vs past so_far =
    so_far ∙ ap (λ ys. joined_items (map view vs) (all ys)) (drop_all i xs past) ∙ ap (joined_items (map view vs)) none ∙ ap Some (after_all vs)

-- in a loop over a list, whose items are each written: what is to be written is what was made, and behind it what is left
pub record HasMade {T : Type 0} (one : T → Option Data) (all : List T → Option Items) (xs : List T) (done : List Value) (i : ℕ) : Type 0 where
  pub made : all xs ≡ joined_items (map view done) (all (drop i xs))

-- at the start
pub none_made : {T : Type 0} (one : T → Option Data) (all : List T → Option Items) (xs : List T) (done : List Value) → done ≡ [] → HasMade one all xs done 0
none_made one all xs done none = record { made = sym (joined_nil (all xs)) ∙ ap (λ vs. joined_items (map view vs) (all xs)) (sym none) }

-- one more is made and pushed
pub more_made : {T : Type 0} {one : T → Option Data} {all : List T → Option Items} {xs : List T} {vs new : List Value} {i : ℕ} → HasMade one all xs vs i → (x : T) (v : Value)
    → MadeBy all one → i < length xs → one (get_or xs i x) ≡ Some (view v) → new ≡ vs ++ v ∷ [] → HasMade one all xs new (i + 1)
more_made {one = one} {all = all} {xs = xs} {vs = vs} {i = i} so_far x v made within is pushed =
    record { made = one_more all one made (all xs) xs i x vs v within so_far.made is ∙ ap (λ ws. joined_items (map view ws) (all (drop (i + 1) xs))) (sym pushed) }

-- at the end
pub all_made : {T : Type 0} {one : T → Option Data} {all : List T → Option Items} {xs : List T} {vs : List Value} {i : ℕ} → HasMade one all xs vs i
    → all [] ≡ Some no_items → length xs ≤ i → all xs ≡ Some (items_view vs)
all_made {all = all} {xs = xs} {vs = vs} {i = i} so_far none past = none_left all none (all xs) xs i vs past so_far.made

pub ruleset lists = (after_all, joined_nil, none_made)
