-- What a walk over a shelf gives is what changed.
use Rattle.std.proofs.Common.{◌≡◌, inl, inr, ℕ, zero, suc, ◌+◌, ◌<◌, ◌≤◌, max, Bool, true, false, true≢false, cond, ◌||◌, nat_lt, slice_index_or, List, [], ◌∷◌, ◌++◌, length, map, filter, Some, None, Option, IfSome, slice_get, refl, sym, ap, subst, ◌∙◌, arith, All, AllPairs, Contains}
use Rattle.item_tree_db.proofs.Common.{option_and_then, option_map, unwrap_or, nat_cmp, ordering_then, Ordering, Less, AllByRecursion, flat_map, is_at, IsStrictlySortedBy, keys_of, nat_tests, length-map, All-nil, All-cons, All-head, All-tail, All-append, All-weaker, All-filter, All-contains, All-contains_itself, Contains-append_left, Contains-append_right, Contains-append_cases, filter_passes, sorted_head, sorted_tail, IsDistinct-from_sorted, lookup-from_Contains, IfSome_then, same_Some, none-some, slice_get_within, Place, Row, place_cmp, place_cmp_total, Change, change_cmp, IsLate, IsSince, IsSinceAmong, HoldLate, HoldNumbers, HoldChanged, has_change, ArePlacesSince, list_any, Shelved, Places, placed_at, IsInOrder, Held, State, crate_limit, change_number, Table, held_of, state_of, IsSound, HasFewRows, HasNumber, Walk, all_changes, changes_from, late_changes, walk_over, over_all, rows_in}
use Rattle.std.proofs.lemmas.Cmp.{eq_by_cmp_equiv}
use Rattle.std.proofs.lemmas.List.Kept.{AllPairs-cons, AllPairs-filter}
use Rattle.std.specs.BTreeSet.{BTreeSet}
use Rattle.item_tree_db.proofs.Places.{IsBelow, equal_of, equal_cmp, had, has, itself}
use Rattle.item_tree_db.proofs.Steps.{found}

-- ---- elements of what is made of a list

module _ {A B : Type 0} (f : A → List B) where
  in_piece : (xs : List A) (y : B) → Contains (flat_map f xs) y → (x : A) × Contains xs x × Contains (f x) y
  in_piece [] y h = absurd (omega (arith, h.1))
  in_piece (x ∷ xs) y h = elim (Contains-append_cases (f x) (flat_map f xs) y h) as (λ _. (z : A) × Contains (x ∷ xs) z × Contains (f z) y) [
    | inl here ↦ (x, (0, omega arith, refl), here)
    | inr there ↦ let r = in_piece xs y there in (r.0, Contains-append_right (x ∷ []) xs r.0 r.1, r.2)
  ]

  piece_in : (xs : List A) (x : A) (y : B) → Contains xs x → Contains (f x) y → Contains (flat_map f xs) y
  piece_in [] x y h g = absurd (omega (arith, h.1))
  piece_in (z ∷ xs) x y (zero, p, e) g = Contains-append_left (f z) (flat_map f xs) y (subst (λ (w : A). Contains (f w) y) (sym e) g)
  piece_in (z ∷ xs) x y (suc k, p, e) g = Contains-append_right (f z) (flat_map f xs) y (piece_in xs x y (k, omega arith, e) g)

filter_in : {A : Type 0} (p : A → Bool) (x : A) (xs : List A) → Contains xs x → p x ≡ true → Contains (filter p xs) x
filter_in p x [] h t = absurd (omega (arith, h.1))
filter_in p x (y ∷ xs) (zero, q, e) t = subst (λ (b : Bool). Contains (cond b (y ∷ filter p xs) (filter p xs)) x) (sym (ap p e ∙ t)) (0, omega arith, e)
filter_in p x (y ∷ xs) (suc k, q, e) t = let h = filter_in p x xs (k, omega arith, e) t in
    elim (p y) as (λ b. Contains (cond b (y ∷ filter p xs) (filter p xs)) x) [ true ↦ Contains-append_right (y ∷ []) (filter p xs) x h | false ↦ h ]

-- ---- one place

-- what a change tells of the rows of its place
record IsOf (k : Place) (i : ℕ) (rows : List Row) (e : Change) : Type 0 where
  pub place : e.0 ≡ k
  pub j : ℕ
  pub krate : e.1.0 ≡ i + j
  pub number : slice_get (map (λ (row : Row). row.changed) rows) j ≡ Some e.2

told : (k : Place) (i : ℕ) (rows : List Row) → All (IsOf k i rows) (changes_from k i rows)
told k i [] = All-nil (IsOf k i [])
told k i (r ∷ rows) = All-cons (IsOf k i (r ∷ rows)) (k, record { 0 = i }, r.changed) (changes_from k (i + 1) rows)
    (record { place = refl; j = 0; krate = omega arith; number = refl })
    (All-weaker (IsOf k (i + 1) rows) (IsOf k i (r ∷ rows)) (λ e t. record { place = t.place; j = suc t.j; krate = let q = t.krate in omega arith; number = t.number }) (changes_from k (i + 1) rows) (told k (i + 1) rows))

tells : (k : Place) (i : ℕ) (rows : List Row) (j n : ℕ) → slice_get (map (λ (row : Row). row.changed) rows) j ≡ Some n → Contains (changes_from k i rows) (k, record { 0 = i + j }, n)
tells k i [] j n h = absurd (none-some n h)
tells k i (r ∷ rows) zero n h = let here : i ≡ i + zero = omega arith in (0, omega arith, λ m. (k, record { 0 = here m }, same_Some r.changed n h m))
tells k i (r ∷ rows) (suc j) n h =
    let here : (i + 1) + j ≡ i + suc j = omega arith in
    Contains-append_right ((k, record { 0 = i }, r.changed) ∷ []) (changes_from k (i + 1) rows) (k, record { 0 = i + suc j }, n)
    (subst (λ (m : ℕ). Contains (changes_from k (i + 1) rows) (k, record { 0 = m }, n)) here (tells k (i + 1) rows j n h))

-- ---- places

-- changes of one place are in the order of their crates
behind : (d e : Change) → d.0 ≡ e.0 → d.1.0 < e.1.0 → change_cmp d e ≡ Less
behind d e p q =
    let less : nat_cmp d.1.0 e.1.0 ≡ Less = grind (arith, nat_tests) in
    let tied = ap (λ (r : Place). place_cmp d.0 r) (sym p) ∙ equal_cmp d.0 in
    ap (λ (o : Ordering). ordering_then o (nat_cmp d.1.0 e.1.0)) tied ∙ less

-- those of two in that of the places
beyond : (d e : Change) → IsBelow d.0 e.0 → change_cmp d e ≡ Less
beyond d e p = ap (λ (o : Ordering). ordering_then o (nat_cmp d.1.0 e.1.0)) p

abbrev Before : Change → Change → Type 0
Before d e = change_cmp d e ≡ Less

order_onto : (k : Place) (i : ℕ) (rows : List Row) (rest : List Change) → All (λ e. IsBelow k e.0) rest → AllPairs Before rest → AllPairs Before (changes_from k i rows ++ rest)
order_onto k i [] rest far h = h
order_onto k i (r ∷ rows) rest far h =
    let c : Change = (k, record { 0 = i }, r.changed) in
    let mine = changes_from k (i + 1) rows in
    AllPairs-cons Before c (mine ++ rest) (All-append (Before c) mine rest
    (All-weaker (IsOf k (i + 1) rows) (Before c) (λ e t. behind c e (sym t.place) (let q = t.krate in omega arith)) mine (told k (i + 1) rows))
    (All-weaker (λ e. IsBelow k e.0) (Before c) (λ e p. beyond c e p) rest far)) (order_onto k (i + 1) rows rest far h)

module _ (l : Places) where
  abbrev changes_of : Place → List Change
  changes_of place = changes_from place 0 (rows_in (placed_at l place))

  -- the changes of a walk over these places
  pub over_is : (places : List Place) → all_changes (walk_over l places) ≡ flat_map changes_of places
  over_is [] = refl
  over_is (place ∷ places) = ap (λ (cs : List Change). changes_of place ++ cs) (over_is places)

  found_in : (places : List Place) (e : Change) → Contains (flat_map changes_of places) e → Contains places e.0 × HasNumber (placed_at l e.0) e.1.0 e.2
  found_in places e h =
      let r = in_piece changes_of places e h in
      let t = All-contains (IsOf r.0 0 (rows_in (placed_at l r.0))) (changes_of r.0) e (told r.0 0 (rows_in (placed_at l r.0))) r.2 in
      let here : e.1.0 ≡ t.j = let q = t.krate in omega arith in (
        subst (Contains places) (sym t.place) r.1,
        ap (λ (p : Place). slice_get (map (λ (row : Row). row.changed) (rows_in (placed_at l p))) e.1.0) t.place ∙ ap (slice_get (map (λ (row : Row). row.changed) (rows_in (placed_at l r.0)))) here ∙ t.number,
      )

  find_in : (places : List Place) (k : Place) (i n : ℕ) → Contains places k → HasNumber (placed_at l k) i n → Contains (flat_map changes_of places) (k, record { 0 = i }, n)
  find_in places k i n c h =
      let here : 0 + i ≡ i = omega arith in
      let rows = rows_in (placed_at l k) in
      piece_in changes_of places k _ c (subst (λ (m : ℕ). Contains (changes_from k 0 rows) (k, record { 0 = m }, n)) here (tells k 0 rows i n h))

  all_above : (k : Place) (places : List Place) → AllByRecursion (IsBelow k) places → All (λ e. IsBelow k e.0) (flat_map changes_of places)
  all_above k [] h = All-nil (λ (e : Change). IsBelow k e.0)
  all_above k (place ∷ places) h = All-append (λ (e : Change). IsBelow k e.0) (changes_of place) (flat_map changes_of places)
      (All-weaker (IsOf place 0 (rows_in (placed_at l place))) (λ e. IsBelow k e.0) (λ e t. subst (IsBelow k) (sym t.place) h.0) (changes_of place) (told place 0 (rows_in (placed_at l place)))) (all_above k places h.1)

  order_all : (places : List Place) → IsStrictlySortedBy place_cmp places → AllPairs Before (flat_map changes_of places)
  order_all [] s = λ i j d p q. absurd (omega arith)
  order_all (place ∷ places) s = order_onto place 0 (rows_in (placed_at l place)) (flat_map changes_of places) (all_above place places (sorted_head place_cmp place places s)) (order_all places (sorted_tail place_cmp place places s))

  over_entries : (xs : Places) → All (λ e. placed_at l e.0 ≡ Some e.1) xs → over_all xs ≡ walk_over l (keys_of xs)
  over_entries [] h = refl
  over_entries (e ∷ xs) h =
      let here = ap rows_in (sym (All-head (λ e. placed_at l e.0 ≡ Some e.1) e xs h)) in
      λ j. (e.0, here j) ∷ over_entries xs (All-tail (λ e. placed_at l e.0 ≡ Some e.1) e xs h) j

  -- a walk over all places is one over those of the entries
  over_keys : IsInOrder l → over_all l ≡ walk_over l (keys_of l)
  over_keys s = over_entries l (All-weaker (Contains l) (λ e. placed_at l e.0 ≡ Some e.1) (λ e c. lookup-from_Contains (eq_by_cmp_equiv place_cmp_total) e.0 e.1 l (IsDistinct-from_sorted place_cmp (keys_of l) s) c) l (All-contains_itself l))

-- a place that has a number is one of them
key_of : (l : Places) (k : Place) (i n : ℕ) → HasNumber (placed_at l k) i n → Contains (keys_of l) k
key_of [] k i n h = absurd (none-some n h)
key_of (e ∷ l) k i n h = elim (is_at (place_cmp k) e.0) as (λ b. is_at (place_cmp k) e.0 ≡ b → HasNumber (cond b (Some e.1) (placed_at l k)) i n → Contains (e.0 ∷ keys_of l) k) [
  | true ↦ λ t g. (0, omega arith, sym (equal_of k e.0 t))
  | false ↦ λ t g. Contains-append_right (e.0 ∷ []) (keys_of l) k (key_of l k i n g)
] refl h

-- ---- against what callers see

above_both : (n start c : ℕ) → nat_lt (max n start) c ≡ true → (n < c) × (start < c)
above_both n start c h = let p : max n start < c = grind (arith, nat_tests) in (omega arith, omega arith)

both_above : (n start c : ℕ) → n < c → start < c → nat_lt (max n start) c ≡ true
both_above n start c p q = let r : max n start < c = omega arith in grind (arith, nat_tests)

abbrev number_in : ℕ → ℕ → Option Shelved → ℕ
number_in start i o = unwrap_or (option_and_then (λ (held : Held). slice_get held.changed i) (option_map held_of o)) start

-- the number of a row
row_is : (start i n : ℕ) (o : Option Shelved) → HasNumber o i n → number_in start i o ≡ n
row_is start i n None h = absurd (none-some n h)
row_is start i n (Some v) h = ap (λ (o : Option ℕ). unwrap_or o start) h

-- a number that is not the start is one of a row
row_of : (start i n : ℕ) (o : Option Shelved) → n ≡ number_in start i o → start < n → HasNumber o i n
row_of start i n None e p = absurd (omega arith)
row_of start i n (Some v) e p = elim (slice_get (held_of v).changed i) as (λ r. slice_get (held_of v).changed i ≡ r → n ≡ unwrap_or r start → HasNumber (Some v) i n) [
  | None ↦ λ g q. absurd (omega arith)
  | Some m ↦ λ g q. g ∙ ap (λ (x : ℕ). Some x) (sym q)
] refl e

-- a row is of a crate
row_within : (count i n : ℕ) (o : Option Shelved) → IfSome o (λ p. length p.rows ≡ count) → HasNumber o i n → i < count
row_within count i n None many h = absurd (none-some n h)
row_within count i n (Some v) many h = subst (λ (m : ℕ). i < m) (length-map v.rows _ ∙ many) (slice_get_within (held_of v).changed i n h)

-- where these places hold all of them
pub since_among : (s : State) (n : ℕ) (places : List Place) (changes : List Change) → HoldLate s n places → IsSinceAmong s n places changes → IsSince s n changes
since_among s n places changes hold h = record {
  late = All-weaker (λ c. IsLate s n c × Contains places c.0) (IsLate s n) (λ c p. p.0) changes h.late;
  whole = λ c l. h.whole c l (hold c l);
  in_order = h.in_order;
}

module _ (t : Table) (sound : IsSound t) (n : ℕ) where
  abbrev passes : Change → Bool
  passes c = nat_lt (max n t.start) c.2

  number_is : (place : Place) (i : ℕ) → change_number (state_of t) place i ≡ number_in t.start i (placed_at t.places place)
  number_is place i = ap (λ (o : Option Held). unwrap_or (option_and_then (λ held. slice_get held.changed i) o) t.start) (found t.places place)

  row_late : (e : Change) → IsLate (state_of t) n e → HasNumber (placed_at t.places e.0) e.1.0 e.2
  row_late e h = row_of t.start e.1.0 e.2 (placed_at t.places e.0) (h.number ∙ number_is e.0 e.1.0) h.above_start

  module _ (places : List Place) where
    abbrev all : List Change
    all = flat_map (changes_of t.places) places

    is_late : (e : Change) → Contains all e → passes e ≡ true → IsLate (state_of t) n e × Contains places e.0
    is_late e h r =
        let f = found_in t.places places e h in
        let above = above_both n t.start e.2 r in (
          record {
            known = row_within (length t.crates) e.1.0 e.2 (placed_at t.places e.0) (sound.rows e.0) f.1;
            number = sym (number_is e.0 e.1.0 ∙ row_is t.start e.1.0 e.2 (placed_at t.places e.0) f.1);
            above = above.0;
            above_start = above.1;
          },
          f.0,
        )

    among : IsStrictlySortedBy place_cmp places → IsSinceAmong (state_of t) n places (filter passes all)
    among s = record {
      late = λ k d w. is_late _ (All-filter passes (Contains all) all (All-contains_itself all) k d w) (filter_passes passes all k d w);
      whole = λ c h i. filter_in passes c all (find_in t.places places c.0 c.1.0 c.2 i (row_late c h)) (both_above n t.start c.2 h.above h.above_start);
      in_order = AllPairs-filter Before passes all (order_all t.places places s);
    }

    pub among_is : IsStrictlySortedBy place_cmp places → IsSinceAmong (state_of t) n places (late_changes (max n t.start) (all_changes (walk_over t.places places)))
    among_is s = subst (λ (cs : List Change). IsSinceAmong (state_of t) n places (filter passes cs)) (sym (over_is t.places places)) (among s)

  -- a walk over all places meets each that has a number
  pub since_is : IsInOrder t.places → IsSince (state_of t) n (late_changes (max n t.start) (all_changes (over_all t.places)))
  since_is s =
      let met = keys_of t.places in
      since_among (state_of t) n met _
      (λ c h. key_of t.places c.0 c.1.0 c.2 (row_late c h))
      (subst (λ (w : Walk). IsSinceAmong (state_of t) n met (late_changes (max n t.start) (all_changes w))) (sym (over_keys t.places s)) (among_is met s))

  -- places that hold each number above the bound hold each change
  pub hold_late : (places : List Place) → HoldNumbers (max n t.start) t.places places → HoldLate (state_of t) n places
  hold_late places hold c h = hold c.0 c.1.0 c.2 (let p = h.above in let q = h.above_start in omega arith) (row_late c h)

-- ---- their places

-- the places so far and those of what is left are those of all
pub places_more : (b f r : Bool) → (cond f true b || r) ≡ (b || (f || r))
places_more true true r = refl
places_more true false r = refl
places_more false true r = refl
places_more false false r = refl

pub none_more : (b : Bool) → (b || false) ≡ b
none_more true = refl
none_more false = refl

any_place : (place : Place) (cs : List Change) → has_change cs place ≡ true → (c : Change) × Contains cs c × (c.0 ≡ place)
any_place place [] h = absurd (true≢false (sym h))
any_place place (c ∷ cs) h = elim (is_at (place_cmp c.0) place) as (λ b. is_at (place_cmp c.0) place ≡ b → (b || has_change cs place) ≡ true → (d : Change) × Contains (c ∷ cs) d × (d.0 ≡ place)) [
  | true ↦ λ t g. (c, (0, omega arith, refl), equal_of c.0 place t)
  | false ↦ λ t g. let r = any_place place cs g in (r.0, Contains-append_right (c ∷ []) cs r.0 r.1, r.2)
] refl h

or_else : (b c : Bool) → c ≡ true → (b || c) ≡ true
or_else true c e = refl
or_else false c e = e

place_any : (cs : List Change) (c : Change) → Contains cs c → has_change cs c.0 ≡ true
place_any [] c h = absurd (omega (arith, h.1))
place_any (d ∷ cs) c (zero, p, e) = ap (λ (x : Change). is_at (place_cmp x.0) c.0 || has_change cs c.0) e ∙ ap (λ (b : Bool). b || has_change cs c.0) (itself c.0)
place_any (d ∷ cs) c (suc k, p, e) = or_else (is_at (place_cmp d.0) c.0) _ (place_any cs c (k, omega arith, e))

-- of what changed since a number
pub places_since : (s : State) (n : ℕ) (changes : List Change) (places : BTreeSet Place) → IsSince s n changes → HoldChanged changes places → ArePlacesSince s n places.keys
places_since s n changes places since of = record {
  late = λ k d l.
      let place = slice_index_or places.keys k d in
      let r = any_place place changes (sym (of place) ∙ had places place (All-contains_itself places.keys k d l)) in
      (r.0, All-contains (IsLate s n) changes r.0 since.late r.1, r.2);
  whole = λ c h. has places c.0 (of c.0 ∙ place_any changes c (since.whole c h));
}

pub few_rows : (t : Table) → IsSound t → length t.crates ≤ crate_limit → HasFewRows t.places
few_rows t sound few place = IfSome_then (placed_at t.places place) (sound.rows place) (λ placed many. omega (arith, many, few))
