-- Histories: the change number without a test, one more edit, and what an index rests on.
use Rattle.std.proofs.Common.{◌≡◌, ◌≢◌, ◌⊎◌, inl, inr, ℕ, zero, suc, ◌+◌, ◌<◌, ◌≤◌, Bool, true, false, not, List, [], ◌∷◌, ◌++◌, length, take, cond, Some, None, Option, IfSome, slice_get, refl, sym, ap, subst, ◌∙◌, arith, true≢false, All, Contains}
use Rattle.item_tree_db.proofs.Common.{option_or, option_map, unwrap_or, All-head, All-tail, none-some, same_Some, take_all, take-append-le, length-append, AtomView, SyntaxView, CrateView, unfolding_code, same, equal_of_same, same_of_equal, Place, State, present, unfolding_of, unfolding_at, change_number, same_place, HoldLate, EditView, set, remove, set_cfg, NamesPlaceOf, TreeFits, FitsAfter, FirstFit, sets, gives, under_options, crate_after, last_some, last_number_below, present_after, unfolding_after, moves, changed_after, IsChangeNumber, IsAfter, IsFooting}
use Rattle.std.proofs.lemmas.Bool.{not-false, not-true, cases_lt}
use Rattle.item_tree_db.proofs.Places.{same_is}

-- ---- the last edit that moved it, without the tests

-- what the last number below n that passes tells, if there is one
abbrev IsLast : (ℕ → Bool) → ℕ → Option ℕ → Type 0
IsLast p n None = (k : ℕ) → k < n → p k ≡ false
IsLast p n (Some m) = (m < n) × (p m ≡ true) × ((k : ℕ) → m < k → k < n → p k ≡ false)

one_no : (p : ℕ → Bool) (k n : ℕ) → k < suc n → p n ≡ false → (k < n → p k ≡ false) → p k ≡ false
one_no p k n b t below = elim (cases_lt k n) as (λ _. p k ≡ false) [ inl q ↦ below q | inr q ↦ let e : k ≡ n = omega arith in ap p e ∙ t ]

last_no : (p : ℕ → Bool) (n : ℕ) (o : Option ℕ) → p n ≡ false → IsLast p n o → IsLast p (suc n) o
last_no p n None t h = λ k b. one_no p k n b t (h k)
last_no p n (Some m) t h = (omega (arith, h.0), h.1, λ k a b. one_no p k n b t (h.2 k a))

last_is : (p : ℕ → Bool) (n : ℕ) → IsLast p n (last_number_below p n)
last_is p zero = λ k h. absurd (omega arith)
last_is p (suc n) = elim (p n) as (λ b. p n ≡ b → IsLast p (suc n) (cond b (Some n) (last_number_below p n))) [
  | true ↦ λ t. (omega arith, t, λ k a b. absurd (omega arith))
  | false ↦ λ t. last_no p n (last_number_below p n) t (last_is p n)
] refl

module _ (s : State) (es : List EditView) (place : Place) (i : ℕ) where
  unmoved : (m : ℕ) → moves s es place i m ≡ false → unfolding_after s (take m es) place i ≡ unfolding_after s (take (suc m) es) place i
  unmoved m h = equal_of_same unfolding_code (unfolding_after s (take m es) place i) (unfolding_after s (take (suc m) es) place i) (not-false _ h)

  moved : (m : ℕ) → moves s es place i m ≡ true → unfolding_after s (take m es) place i ≢ unfolding_after s (take (suc m) es) place i
  moved m h e = true≢false (sym (same_of_equal unfolding_code (unfolding_after s (take m es) place i) (unfolding_after s (take (suc m) es) place i) e) ∙ not-true _ h)

  change_number_by : IsChangeNumber s es place i (changed_after s es place i)
  change_number_by = elim (last_number_below (moves s es place i) (length es)) as (λ o. IsLast (moves s es place i) (length es) o → IsChangeNumber s es place i (unwrap_or (option_map (λ n. s.number + n + 1) o) (change_number s place i))) [
    | None ↦ λ h. inl (record { number = refl; still = λ m b. unmoved m (h m b) })
    | Some n ↦ λ h. inr (n, record { in_list = h.0; number = refl; moved = moved n h.1; still = λ m a b. unmoved m (h.2 m a b) })
  ] (last_is (moves s es place i) (length es))

  -- the law: a change number of a table to which edits led, without a test
  pub change_number_is : (u : State) → IsAfter s es u → i < length s.crates → IsChangeNumber s es place i (change_number u place i)
  change_number_is u after p = subst (λ (c : ℕ). IsChangeNumber s es place i c) (sym (after.changes place i p)) change_number_by

-- ---- one more edit

or_assoc : {A : Type 0} (a b c : Option A) → option_or (option_or a b) c ≡ option_or a (option_or b c)
or_assoc None b c = refl
or_assoc (Some x) b c = refl

or_none : {A : Type 0} (a : Option A) → a ≡ option_or a None
or_none None = refl
or_none (Some x) = refl

pub last_append : {A B : Type 0} (f : A → Option B) (xs ys : List A) → last_some f (xs ++ ys) ≡ option_or (last_some f ys) (last_some f xs)
last_append f [] ys = or_none (last_some f ys)
last_append f (x ∷ xs) ys = ap (λ o. option_or o (f x)) (last_append f xs ys) ∙ or_assoc (last_some f ys) (last_some f xs) (f x)

pub or_else : {A : Type 0} (a b : Option A) (d : A) → unwrap_or (option_or a b) d ≡ unwrap_or a (unwrap_or b d)
or_else None b d = refl
or_else (Some x) b d = refl

-- options given, and given again
under_both : (a b : Option (List AtomView)) (krate : Option CrateView) → under_options (option_or a b) krate ≡ under_options a (under_options b krate)
under_both None b krate = refl
under_both (Some o) None krate = refl
under_both (Some o) (Some p) None = refl
under_both (Some o) (Some p) (Some krate) = refl

same_below : (p q : ℕ → Bool) (n : ℕ) → ((k : ℕ) → k < n → p k ≡ q k) → last_number_below p n ≡ last_number_below q n
same_below p q zero h = refl
same_below p q (suc n) h = (λ j. cond (h n (omega arith) j) (Some n) (same_below p q n (λ k b. h k (omega arith)) j))

take_past : {A : Type 0} (xs ys : List A) (n : ℕ) → take (length xs + n) (xs ++ ys) ≡ xs ++ take n ys
take_past [] ys n = let e : 0 + n ≡ n = omega arith in ap (λ k. take k ys) e
take_past (x ∷ xs) ys n = let e : suc (length xs) + n ≡ suc (length xs + n) = omega arith in ap (λ k. take k (x ∷ (xs ++ ys))) e ∙ ap (λ r. x ∷ r) (take_past xs ys n)

-- the last below a sum: of those past the first m, or else of these
below_at : (b : Bool) (m k : ℕ) (later first whole : Option ℕ) → whole ≡ option_or (option_map (λ n. m + n) later) first
    → cond b (Some (m + k)) whole ≡ option_or (option_map (λ n. m + n) (cond b (Some k) later)) first
below_at true m k later first whole h = refl
below_at false m k later first whole h = h

below_sum : (p : ℕ → Bool) (m k : ℕ) → last_number_below p (m + k) ≡ option_or (option_map (λ n. m + n) (last_number_below (λ n. p (m + n)) k)) (last_number_below p m)
below_sum p m zero = let e : m + zero ≡ m = omega arith in ap (last_number_below p) e
below_sum p m (suc k) =
    let e : m + suc k ≡ suc (m + k) = omega arith in
    ap (last_number_below p) e ∙ below_at (p (m + k)) m k (last_number_below (λ n. p (m + n)) k) (last_number_below p m) (last_number_below p (m + k)) (below_sum p m k)

-- the number of the last edit that moved it
numbers : (s u m now then : ℕ) (later first : Option ℕ) → u ≡ s + m → then ≡ unwrap_or (option_map (λ n. s + n + 1) first) now
    → unwrap_or (option_map (λ n. u + n + 1) later) then ≡ unwrap_or (option_map (λ n. s + n + 1) (option_or (option_map (λ n. m + n) later) first)) now
numbers s u m now then (Some n) first e h = omega arith
numbers s u m now then None first e h = h

module _ (s u v : State) (es fs : List EditView) (front : IsAfter s es u) (last : IsAfter u fs v) where
  abbrev all : List EditView
  all = es ++ fs

  join_present : (gs : List EditView) (place : Place) → present_after u gs place ≡ present_after s (es ++ gs) place
  join_present gs place = ap (unwrap_or (last_some (sets place) gs)) (front.syntaxes place) ∙ sym (or_else (last_some (sets place) gs) (last_some (sets place) es) (present s place)) ∙ ap (λ o. unwrap_or o (present s place)) (sym (last_append (sets place) es gs))

  join_crate : (gs : List EditView) (i : ℕ) → crate_after u gs i ≡ crate_after s (es ++ gs) i
  join_crate gs i = ap (under_options (last_some (gives i) gs)) (front.crates i) ∙ sym (under_both (last_some (gives i) gs) (last_some (gives i) es) (slice_get s.crates i)) ∙ ap (λ o. under_options o (slice_get s.crates i)) (sym (last_append (gives i) es gs))

  join_unfolding : (gs : List EditView) (place : Place) (i : ℕ) → unfolding_after u gs place i ≡ unfolding_after s (es ++ gs) place i
  join_unfolding gs place i j = unfolding_of (front.skipped j) place (join_crate gs i j) (join_present gs place j)

  unfolding_past : (place : Place) (i n : ℕ) → unfolding_after u (take n fs) place i ≡ unfolding_after s (take (length es + n) all) place i
  unfolding_past place i n = join_unfolding (take n fs) place i ∙ ap (λ (xs : List EditView). unfolding_after s xs place i) (sym (take_past es fs n))

  moves_past : (place : Place) (i n : ℕ) → moves u fs place i n ≡ moves s all place i (length es + n)
  moves_past place i n =
      let e : length es + suc n ≡ suc (length es + n) = omega arith in
      λ j. not (same unfolding_code (unfolding_past place i n j) ((unfolding_past place i (suc n) ∙ ap (λ (k : ℕ). unfolding_after s (take k all) place i) e) j))

  moves_first : (place : Place) (i k : ℕ) → k < length es → moves s es place i k ≡ moves s all place i k
  moves_first place i k p = λ j. not (same unfolding_code (unfolding_after s (sym (take-append-le k es fs (omega arith)) j) place i) (unfolding_after s (sym (take-append-le (suc k) es fs (omega arith)) j) place i))

  join_changed : (place : Place) (i : ℕ) → i < length s.crates → change_number v place i ≡ changed_after s all place i
  join_changed place i p =
      let m = length es in
      let k = length fs in
      let now = change_number s place i in
      let told = λ (o : Option ℕ). unwrap_or (option_map (λ n. s.number + n + 1) o) now in
      last.changes place i (rw front.count p)
      ∙ numbers s.number u.number m now (change_number u place i) (last_number_below (moves u fs place i) k) (last_number_below (moves s es place i) m) front.number (front.changes place i p)
      ∙ (λ j. told (option_or (option_map (λ n. m + n) (same_below (moves u fs place i) (λ n. moves s all place i (m + n)) k (λ n b. moves_past place i n) j)) (same_below (moves s es place i) (moves s all place i) m (moves_first place i) j)))
      ∙ ap told (sym (below_sum (moves s all place i) m k) ∙ ap (last_number_below (moves s all place i)) (sym (length-append es fs)))

  -- edits made in two goes
  pub after_join : IsAfter s all v
  after_join = record {
    number = let a = front.number in let b = last.number in let c = length-append es fs in omega arith;
    start = last.start ∙ front.start;
    count = last.count ∙ front.count;
    crates = λ i. last.crates i ∙ join_crate fs i;
    skipped = last.skipped ∙ front.skipped;
    syntaxes = λ place. last.syntaxes place ∙ join_present fs place;
    unfoldings = λ place i p. last.unfoldings place i (rw front.count p) ∙ join_unfolding fs place i;
    changes = join_changed;
  }

-- one edit more
pub after_more : (s u v : State) (es : List EditView) (e : EditView) → IsAfter s es u → IsAfter u (e ∷ []) v → IsAfter s (es ++ e ∷ []) v
after_more s u v es e front last = after_join s u v es (e ∷ []) front last

-- no edit
pub after_none : (s : State) → IsAfter s [] s
after_none s = record {
  number = omega arith;
  start = refl;
  count = refl;
  crates = λ i. refl;
  skipped = refl;
  syntaxes = λ place. refl;
  unfoldings = λ place i p. refl;
  changes = λ place i p. refl;
}

-- ---- what each edit of a list fits

fits_front : (s u : State) (es : List EditView) (e : EditView) → IsAfter s es u → FitsAfter u [] e → FitsAfter s es e
fits_front s u es (set place syntax) after h = λ i. subst (λ (z : List (List ℕ) × Option CrateView). TreeFits z.0 place z.1 (Some syntax)) (λ j. (after.skipped j, after.crates i j)) (h i)
fits_front s u es (remove place) after h = tt
fits_front s u es (set_cfg i o) after h = λ place. subst (λ (z : List (List ℕ) × Option CrateView × Option SyntaxView). TreeFits z.0 place (under_options (Some o) z.1) z.2) (λ j. (after.skipped j, after.crates i j, after.syntaxes place j)) (h place)

-- one more edit
pub fits_more : (s u : State) (es : List EditView) (n : ℕ) (e : EditView) → FirstFit s es n → IsAfter s (take n es) u → slice_get es n ≡ Some e → FitsAfter u [] e → FirstFit s es (n + 1)
fits_more s u es n e fit is at fits m p = elim (cases_lt m n) as (λ _. IfSome (slice_get es m) (FitsAfter s (take m es))) [
  | inl q ↦ fit m q
  | inr q ↦
      let here : n ≡ m = omega (arith, p, q) in
      subst (λ (k : ℕ). IfSome (slice_get es k) (FitsAfter s (take k es))) here (subst (λ (o : Option EditView). IfSome o (FitsAfter s (take n es))) (sym at) (fits_front s u (take n es) e is fits))
]

-- ---- what an index rests on

still_all : (s : State) (es : List EditView) (place : Place) (i n : ℕ) → n ≤ length es → ((m : ℕ) → m < length es → unfolding_after s (take m es) place i ≡ unfolding_after s (take (suc m) es) place i) → unfolding_after s (take n es) place i ≡ unfolding_at s place i
still_all s es place i zero p h = refl
still_all s es place i (suc n) p h = sym (h n (omega arith)) ∙ still_all s es place i n (omega arith) h

-- a number that is not above the one before
record IsKept (s u : State) (place : Place) (i : ℕ) : Type 0 where
  pub number : change_number u place i ≡ change_number s place i
  pub tree : unfolding_at u place i ≡ unfolding_at s place i

kept_low : (s u : State) (es : List EditView) (place : Place) (i : ℕ) → IsAfter s es u → i < length s.crates → change_number u place i ≤ s.number → IsKept s u place i
kept_low s u es place i after p low = elim (change_number_is s es place i u after p) as (λ _. IsKept s u place i) [
  | inl same ↦ record {
    number = same.number;
    tree = after.unfoldings place i p ∙ ap (λ (xs : List EditView). unfolding_after s xs place i) (sym (take_all (length es) es (omega arith))) ∙ still_all s es place i (length es) (omega arith) same.still;
  }
  | inr last ↦ let e = last.1.number in absurd (omega arith)
]

pub footing : (s u : State) (es : List EditView) → ((place : Place) (i : ℕ) → i < length u.crates → change_number u place i ≤ u.number) → IsAfter s es u → IsFooting s u
footing s u es bounded after = record {
  bounded = λ place i p. bounded place i (rw after.count p);
  numbers = λ place i p low. (kept_low s u es place i after p low).number;
  trees = λ place i p low. (kept_low s u es place i after p low).tree;
}

-- ---- which places edits name

last_take : {B : Type 0} (f : EditView → Option B) (es : List EditView) (m : ℕ) (e : EditView) → slice_get es m ≡ Some e → f e ≡ None → last_some f (take (suc m) es) ≡ last_some f (take m es)
last_take f [] m e at none = absurd (none-some e at)
last_take f (x ∷ es) zero e at none = ap f (same_Some x e at) ∙ none
last_take f (x ∷ es) (suc m) e at none = ap (λ o. option_or o (f x)) (last_take f es m e at none)

edit_at : (P : EditView → Type 0) (es : List EditView) (m : ℕ) → All P es → m < length es → (e : EditView) × (slice_get es m ≡ Some e) × P e
edit_at P [] m h p = absurd (omega arith)
edit_at P (e ∷ es) zero h p = (e, refl, All-head P e es h)
edit_at P (e ∷ es) (suc m) h p = edit_at P es m (All-tail P e es h) (omega arith)

-- an edit that names one of some places names this one of them, or leaves it
record Leaves (place : Place) (e : EditView) : Type 0 where
  pub syntax : sets place e ≡ None
  pub crates : (i : ℕ) → gives i e ≡ None

names_or_leaves : (places : List Place) (e : EditView) (place : Place) → NamesPlaceOf places e → Contains places place ⊎ Leaves place e
names_or_leaves places (set at syntax) place h = elim (same_place at place) as (λ b. same_place at place ≡ b → Contains places place ⊎ Leaves place (set at syntax)) [
  | true ↦ λ t. inl (subst (Contains places) (sym (same_is place at t)) h)
  | false ↦ λ t. inr (record { syntax = ap (λ b. cond b (Some (Some syntax)) None) t; crates = λ i. refl })
] refl
names_or_leaves places (remove at) place h = elim (same_place at place) as (λ b. same_place at place ≡ b → Contains places place ⊎ Leaves place (remove at)) [
  | true ↦ λ t. inl (subst (Contains places) (sym (same_is place at t)) h)
  | false ↦ λ t. inr (record { syntax = ap (λ b. cond b (Some None) None) t; crates = λ i. refl })
] refl
names_or_leaves places (set_cfg k o) place h = absurd h

left_at : (s : State) (es : List EditView) (place : Place) (i m : ℕ) (e : EditView) → slice_get es m ≡ Some e → Leaves place e → unfolding_after s (take m es) place i ≡ unfolding_after s (take (suc m) es) place i
left_at s es place i m e at leaves j = unfolding_of s.skipped place (under_options (sym (last_take (gives i) es m e at (leaves.crates i)) j) (slice_get s.crates i)) (unwrap_or (sym (last_take (sets place) es m e at leaves.syntax) j) (present s place))

-- where these places hold what changed since a number and what the edits name, they hold what changed after them
pub late_after : (s u : State) (es : List EditView) (n : ℕ) (old new : List Place) → IsAfter s es u → ((place : Place) → Contains old place → Contains new place) → All (NamesPlaceOf new) es → HoldLate s n old → HoldLate u n new
late_after s u es n old new after more names hold c l =
    let known : c.1.0 < length s.crates = rw (← after.count) l.known in
    elim (change_number_is s es c.0 c.1.0 u after known) as (λ _. Contains new c.0) [
      | inl same ↦ more c.0 (hold c (record { known = known; number = l.number ∙ same.number; above = l.above; above_start = subst (λ (m : ℕ). m < c.2) after.start l.above_start }))
      | inr last ↦
          let edit = edit_at (NamesPlaceOf new) es last.0 names last.1.in_list in
          elim (names_or_leaves new edit.0 c.0 edit.2) as (λ _. Contains new c.0) [
            | inl h ↦ h
            | inr leaves ↦ absurd (last.1.moved (left_at s es c.0 c.1.0 last.0 edit.0 edit.1 leaves))
          ]
    ]
