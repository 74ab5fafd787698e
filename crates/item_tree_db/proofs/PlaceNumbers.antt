-- Which places stand under which numbers.
use Rattle.std.proofs.Common.{◌≡◌, ◌≢◌, ◌⊎◌, inl, inr, ℕ, zero, suc, ◌+◌, ◌<◌, ◌≤◌, max, Bool, true, false, cond, ◌||◌, List, [], ◌∷◌, ◌++◌, length, map, drop, get_or, Some, None, Option, IfSome, slice_get, refl, sym, ap, subst, ◌∙◌, arith, true≢false, Contains, IsTrue}
use Rattle.item_tree_db.proofs.Common.{is_at, IsTotalOrder, nat_cmp_total, on_total, then_total, AllByRecursion, list_any, IsStrictlySortedBy, is_eq, is_lt, nat_cmp, ordering_then, Ordering, Less, Equal, Greater, nat_tests, btree_set_IsUpperBound-last, IfSome_then, same_Some, none-some, Place, Row, place_cmp, place_cmp_total, AreNoted, HoldsNoted, IsNoted, newest_number, noted_cmp, Shelved, Places, placed_at, HasNumber, HoldNumbers}
use Rattle.std.specs.BTreeSet.{BTreeSet, Updates, contains}
use Rattle.item_tree_db.specs.declared.recent.Recent.{Recent}
use Rattle.item_tree_db.proofs.Crates.{drop_at}
use Rattle.item_tree_db.proofs.Places.{equal_of, itself, has, had}

-- ---- the order

noted_cmp_total : IsTotalOrder noted_cmp
noted_cmp_total = then_total (on_total (λ (t : ℕ × Place). t.0) nat_cmp_total) (on_total (λ (t : ℕ × Place). t.1) place_cmp_total)

second : (x y : Ordering) → is_eq (ordering_then x y) ≡ true → is_eq y ≡ true
second Less y h = absurd (true≢false (sym h))
second Equal y h = h
second Greater y h = absurd (true≢false (sym h))

-- equal in the order, they are of one place
tied_place : (a b : ℕ × Place) → is_at (noted_cmp a) b ≡ true → a.1 ≡ b.1
tied_place a b h = equal_of a.1 b.1 (second (nat_cmp a.0 b.0) (place_cmp a.1 b.1) h)

-- ---- one more, and one taken out

or_true : (b c : Bool) → c ≡ true → cond b true c ≡ true
or_true true c e = refl
or_true false c e = e

kept_by_insert : (s n : BTreeSet (ℕ × Place)) (k q : ℕ × Place) → Updates noted_cmp s n k true → IsTrue (contains noted_cmp s q) → IsTrue (contains noted_cmp n q)
kept_by_insert s n k q updates h = updates.0 q ∙ or_true (is_at (noted_cmp k) q) (contains noted_cmp s q) h

kept_by_remove : (s n : BTreeSet (ℕ × Place)) (k q : ℕ × Place) → Updates noted_cmp s n k false → q.1 ≢ k.1 → IsTrue (contains noted_cmp s q) → IsTrue (contains noted_cmp n q)
kept_by_remove s n k q updates other h = updates.0 q ∙ elim (is_at (noted_cmp k) q) as (λ b. is_at (noted_cmp k) q ≡ b → cond b false (contains noted_cmp s q) ≡ true) [
  | true ↦ λ t. absurd (other (sym (tied_place k q t)))
  | false ↦ λ t. h
] refl

module _ (r s : Recent) (low : r.missing ≤ s.missing) where
  pub noted_insert : (k : ℕ × Place) → Updates noted_cmp r.places s.places k true → (q : Place) (n : ℕ) → IsNoted r q n → IsNoted s q n
  noted_insert k updates q n h = elim h as (λ _. IsNoted s q n) [
    | inl p ↦ inl (omega (arith, p, low))
    | inr w ↦ inr (w.0, w.1, kept_by_insert r.places s.places k (w.0, q) updates w.2)
  ]

  pub noted_remove : (k : ℕ × Place) → Updates noted_cmp r.places s.places k false → (q : Place) (n : ℕ) → q ≢ k.1 → IsNoted r q n → IsNoted s q n
  noted_remove k updates q n other h = elim h as (λ _. IsNoted s q n) [
    | inl p ↦ inl (omega (arith, p, low))
    | inr w ↦ inr (w.0, w.1, kept_by_remove r.places s.places k (w.0, q) updates other w.2)
  ]

-- ---- the places above a bound

-- whether the place stands under the number in a list
abbrev stands : ℕ → Place → List (ℕ × Place) → Bool
stands m q = list_any (is_at (noted_cmp (m, q)))

-- each that stands there is in what is left or was met
abbrev pub AreMet : Recent → List (ℕ × Place) → List Place → Type 0
AreMet r left met = (m : ℕ) (q : Place) → IsTrue (contains noted_cmp r.places (m, q)) → (stands m q left ≡ true) ⊎ Contains met q

front_or_last : (left : List (ℕ × Place)) (x : ℕ × Place) (m : ℕ) (q : Place) → stands m q (left ++ x ∷ []) ≡ true → (stands m q left ≡ true) ⊎ (x.1 ≡ q)
front_or_last [] x m q h = elim (is_at (noted_cmp (m, q)) x) as (λ b. is_at (noted_cmp (m, q)) x ≡ b → (b || false) ≡ true → (false ≡ true) ⊎ (x.1 ≡ q)) [
  | true ↦ λ t g. inr (sym (tied_place (m, q) x t))
  | false ↦ λ t g. absurd (true≢false (sym g))
] refl h
front_or_last (y ∷ left) x m q h = elim (is_at (noted_cmp (m, q)) y) as (λ b. (b || stands m q (left ++ x ∷ [])) ≡ true → ((b || stands m q left) ≡ true) ⊎ (x.1 ≡ q)) [
  | true ↦ λ g. inl refl
  | false ↦ λ g. front_or_last left x m q g
] h

front_all : {K : Type 0} (P : K → Type 0) (ks : List K) (k : K) → AllByRecursion P (ks ++ k ∷ []) → AllByRecursion P ks
front_all P [] k h = tt
front_all P (y ∷ ks) k h = (h.0, front_all P ks k h.1)

pub front_sorted : {K : Type 0} (c : K → K → Ordering) (ks : List K) (k : K) → IsStrictlySortedBy c (ks ++ k ∷ []) → IsStrictlySortedBy c ks
unfolding IsStrictlySortedBy
front_sorted c [] k h = tt
front_sorted c (y ∷ ks) k h = (front_all (λ z. c y z ≡ Less) ks k h.0, front_sorted c ks k h.1)

pub met_more : (r : Recent) (all left : List (ℕ × Place)) (x : ℕ × Place) (old new : BTreeSet Place) → all ≡ left ++ x ∷ [] → Updates place_cmp old new x.1 true → AreMet r all old.keys → AreMet r left new.keys
met_more r all left x old new is updates met m q h = elim (met m q h) as (λ _. (stands m q left ≡ true) ⊎ Contains new.keys q) [
  | inl s ↦ elim (front_or_last left x m q (subst (λ (l : List (ℕ × Place)). stands m q l ≡ true) is s)) as (λ _. (stands m q left ≡ true) ⊎ Contains new.keys q) [
    | inl f ↦ inl f
    | inr e ↦ inr (subst (Contains new.keys) e (has new x.1 updates.1))
  ]
  | inr c ↦ inr (has new q (updates.0 q ∙ or_true (is_at (place_cmp x.1) q) (contains place_cmp old q) (had old q c)))
]

-- the last that is left is not above the bound, so none is
pub met_late : (r : Recent) (bound : ℕ) (all left : List (ℕ × Place)) (x : ℕ × Place) (places : List Place) → r.missing ≤ bound → IsStrictlySortedBy noted_cmp all → all ≡ left ++ x ∷ [] → x.0 ≤ bound → AreMet r all places → HoldsNoted r bound places
met_late r bound all left x places missing sorted is low met q n above h = elim h as (λ _. Contains places q) [
  | inl p ↦ absurd (omega (arith, missing, above, p))
  | inr w ↦ elim (met w.0 q w.2) as (λ _. Contains places q) [
    | inl s ↦
        let up : is_lt (noted_cmp x (w.0, q)) ≡ false = btree_set_IsUpperBound-last noted_cmp_total (record { keys = all }) sorted x left is (w.0, q) s in
        let le : n ≤ w.0 = w.1 in
        let less : nat_cmp x.0 w.0 ≡ Less = let p : x.0 < w.0 = omega (arith, low, above, le) in grind (arith, nat_tests) in
        absurd (true≢false (sym (ap (λ (o : Ordering). is_lt (ordering_then o (place_cmp x.1 q))) less) ∙ up))
    | inr c ↦ c
  ]
]

-- ---- the greatest numbers

max_assoc : (a b c : ℕ) → max (max a b) c ≡ max a (max b c)
max_assoc a b c = omega arith

pub newest_step : (rows : List Row) (i : ℕ) (x : Row) (a : ℕ) → x ≡ get_or rows i x → i < length rows → max (max a x.changed) (newest_number (drop (i + 1) rows)) ≡ max a (newest_number (drop i rows))
newest_step rows i x a e h = max_assoc a x.changed (newest_number (drop (i + 1) rows)) ∙ ap (λ (l : List Row). max a (newest_number l)) (sym (drop_at rows i x e h))

up_to_newest : (rows : List Row) (i n : ℕ) → slice_get (map (λ (row : Row). row.changed) rows) i ≡ Some n → n ≤ newest_number rows
up_to_newest [] i n h = absurd (none-some n h)
up_to_newest (r ∷ rows) zero n h = let e = same_Some r.changed n h in omega (arith, e)
up_to_newest (r ∷ rows) (suc i) n h = let p = up_to_newest rows i n h in omega (arith, p)

-- ---- of all places

-- one place has this now, and the others have what they had
pub noted_put : (r s : Recent) (k : Place) (x : Shelved) (old new : Places) → AreNoted r old → ((q : Place) → placed_at new q ≡ cond (is_at (place_cmp k) q) (Some x) (placed_at old q)) → (number : ℕ) → number ≡ newest_number x.rows → IsNoted s k number
    → ((q : Place) (n : ℕ) → q ≢ k → IsNoted r q n → IsNoted s q n) → AreNoted s new
noted_put r s k x old new were put number is here others q = subst (λ (o : Option Shelved). IfSome o (λ p. IsNoted s q (newest_number p.rows))) (sym (put q)) (elim (is_at (place_cmp k) q) as (λ b. is_at (place_cmp k) q ≡ b → IfSome (cond b (Some x) (placed_at old q)) (λ p. IsNoted s q (newest_number p.rows))) [
  | true ↦ λ t. subst (λ (z : Place). IsNoted s z (newest_number x.rows)) (equal_of k q t) (subst (IsNoted s k) is here)
  | false ↦ λ t. IfSome_then (placed_at old q) (were q) (λ p n. others q (newest_number p.rows) (λ e. true≢false (sym (ap (is_at (place_cmp k)) e ∙ itself k) ∙ t)) n)
] refl)

late_in : (r : Recent) (bound : ℕ) (places : List Place) (place : Place) (i n : ℕ) (o : Option Shelved) → HoldsNoted r bound places → bound < n → IfSome o (λ p. IsNoted r place (newest_number p.rows)) → HasNumber o i n → Contains places place
late_in r bound places place i n None holds above noted h = absurd (none-some n h)
late_in r bound places place i n (Some p) holds above noted h = holds place (newest_number p.rows) (let u = up_to_newest p.rows i n h in omega (arith, above, u)) noted

-- each place that has a number above the bound is held
pub holds_late : (r : Recent) (l : Places) (bound : ℕ) (places : List Place) → AreNoted r l → HoldsNoted r bound places → HoldNumbers bound l places
holds_late r l bound places noted holds place i n above h = late_in r bound places place i n (placed_at l place) holds above (noted place) h
