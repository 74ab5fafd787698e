-- What is listed stands on its shelf, in order.
use Rattle.decl_index.proofs.Common.{◌≡◌, ℕ, Bool, true, cond, false, List, [], ◌∷◌, String, Global, Option, Some, None, All, AllByRecursion, Contains, filter, flat_map, unwrap_or, slice_index_or, refl, sym, ap, subst, ◌∙◌, arith, Ordering, Less, is_at, nat_cmp, ordering_then, place_cmp, id_cmp, Entry, name_cmp, entry_cmp, Shelves, shelf_at, is_shelved, shelf_entries, AreShelved, IsShelfOf, All-append, All-contains, All-contains_itself, All-head, All-nil, All-tail, All-weaker, Contains-append_left, Contains-append_right, IsStrictlySortedBy, IsStrictlySortedBy-filter, none-some, same_Some, bytes_eq, string_bytes, update}
use Rattle.std.specs.BTreeMap.{get, get_by_text}
use Rattle.std.specs.BTreeMap as map
use Rattle.std.specs.BTreeSet.{BTreeSet, contains}
use Rattle.std.specs.Cmp.Lexicographic.{slice_cmp}
use Rattle.std.specs.Map.{keys_of, lookup, values_of}
use Rattle.std.specs.String.{string_cmp, string_cmp_total}
use Rattle.std.proofs.lemmas.List.Elements.{recursion_from_All}
use Rattle.std.proofs.lemmas.Map.Views.{All-found}
use Rattle.std.proofs.lemmas.Slice.Eq.{bytes_eq-Decides}
use Rattle.decl_index.specs.Lookup.{entry_has_name}
use Rattle.decl_index.proofs.Lists.{filter_contains, filter_from, sorted_append}
use Rattle.decl_index.proofs.Order.{alike, at_is, empty_has, held_same, held_update, in_set}

abbrev Row : Type 0
Row = String Global × BTreeSet Entry

abbrev none : BTreeSet Entry
none = record { keys = [] }

abbrev IsGood : Row → Type 0
IsGood row = IsShelfOf (string_bytes row.0) row.1

abbrev listed_in : List Row → List Entry
listed_in rows = flat_map (λ (shelf : BTreeSet Entry). shelf.keys) (values_of rows)

-- ---- order

before : (x y : Entry) → name_cmp x.name y.name ≡ Less → entry_cmp x y ≡ Less
before x y h = ap (λ (o : Ordering). ordering_then (ordering_then (ordering_then o (place_cmp x.place y.place)) (nat_cmp x.krate.0 y.krate.0)) (id_cmp x.id y.id)) h

all_listed : (P : Entry → Type 0) (rows : List Row) → All (λ row. All P row.1.keys) rows → All P (listed_in rows)
all_listed P [] h = All-nil P
all_listed P (row ∷ rows) h = All-append P row.1.keys (listed_in rows) (All-head (λ r. All P r.1.keys) row rows h) (all_listed P rows (All-tail (λ r. All P r.1.keys) row rows h))

later : (name : List ℕ) (rows : List Row) → AllByRecursion (λ k. slice_cmp nat_cmp name (string_bytes k) ≡ Less) (keys_of rows) → All IsGood rows → All (λ y. name_cmp name y.name ≡ Less) (listed_in rows)
later name [] h good = All-nil (λ y. name_cmp name y.name ≡ Less)
later name (row ∷ rows) h good =
    All-append (λ y. name_cmp name y.name ≡ Less) row.1.keys (listed_in rows)
    (All-weaker (λ y. y.name ≡ string_bytes row.0) (λ y. name_cmp name y.name ≡ Less) (λ y is. subst (λ (n : List ℕ). name_cmp name n ≡ Less) (sym is) h.0) row.1.keys (All-head IsGood row rows good).named)
    (later name rows h.1 (All-tail IsGood row rows good))

sorted_in : (rows : List Row) → IsStrictlySortedBy string_cmp (keys_of rows) → All IsGood rows → IsStrictlySortedBy entry_cmp (listed_in rows)
unfolding IsStrictlySortedBy
sorted_in [] h good = tt
sorted_in (row ∷ rows) h good =
    let here = All-head IsGood row rows good in
    let rest = All-tail IsGood row rows good in
    sorted_append entry_cmp row.1.keys (listed_in rows) here.in_order (sorted_in rows h.1 rest)
    (All-weaker (λ x. x.name ≡ string_bytes row.0) (λ x. AllByRecursion (λ y. entry_cmp x y ≡ Less) (listed_in rows))
    (λ x is. recursion_from_All (λ y. entry_cmp x y ≡ Less) (listed_in rows)
    (All-weaker (λ y. name_cmp x.name y.name ≡ Less) (λ y. entry_cmp x y ≡ Less) (before x) (listed_in rows)
    (subst (λ (n : List ℕ). All (λ y. name_cmp n y.name ≡ Less) (listed_in rows)) (sym is) (later (string_bytes row.0) rows h.0 rest))))
    row.1.keys here.named)

-- ---- what stands there

looked : (name : List ℕ) (rows : List Row) (shelf : BTreeSet Entry) → lookup (is_at (λ k. slice_cmp nat_cmp name (string_bytes k))) rows ≡ Some shelf → (e : Entry) → Contains shelf.keys e → Contains (listed_in rows) e
looked name [] shelf is e c = absurd (none-some shelf is)
looked name (row ∷ rows) shelf is e c =
    elim (is_at (λ (k : String Global). slice_cmp nat_cmp name (string_bytes k)) row.0) as (λ b. cond b (Some row.1) (lookup (is_at (λ k. slice_cmp nat_cmp name (string_bytes k))) rows) ≡ Some shelf → Contains (listed_in (row ∷ rows)) e) [
      | true ↦ λ h. Contains-append_left row.1.keys (listed_in rows) e (subst (λ (s : BTreeSet Entry). Contains s.keys e) (sym (same_Some row.1 shelf h)) c)
      | false ↦ λ h. Contains-append_right row.1.keys (listed_in rows) e (looked name rows shelf h e c)
    ] is

found_in : (o : Option (BTreeSet Entry)) (e : Entry) → Contains (unwrap_or o none).keys e → (shelf : BTreeSet Entry) × (o ≡ Some shelf) × Contains shelf.keys e
found_in None e c = absurd (omega (arith, c.1))
found_in (Some shelf) e c = (shelf, refl, c)

module _ (m : Shelves) (h : AreShelved m) where
  found : All (λ row. get string_cmp m row.0 ≡ Some row.1) m.entries
  found = All-found string_cmp_total m h.in_order

  good : All IsGood m.entries
  good = All-weaker (λ row. get string_cmp m row.0 ≡ Some row.1) IsGood (λ row is. subst (λ (o : Option (BTreeSet Entry)). IsShelfOf (string_bytes row.0) (unwrap_or o none)) is (h.each (string_bytes row.0))) m.entries found

  pub sorted : IsStrictlySortedBy entry_cmp (shelf_entries m)
  sorted = sorted_in m.entries h.in_order good

  all_stand : All (λ e. is_shelved m e ≡ true) (shelf_entries m)
  all_stand = all_listed (λ e. is_shelved m e ≡ true) m.entries (λ k d l j e w.
      let row = slice_index_or m.entries k d in
      let x = slice_index_or row.1.keys j e in
      subst (λ (n : List ℕ). contains entry_cmp (unwrap_or (get_by_text m n) none) x ≡ true) (sym ((good k d l).named j e w))
      (subst (λ (o : Option (BTreeSet Entry)). contains entry_cmp (unwrap_or o none) x ≡ true) (sym (found k d l)) ((in_set row.1 x).1 (All-contains_itself row.1.keys j e w))))

  pub stands_listed : (e : Entry) → Contains (shelf_entries m) e → is_shelved m e ≡ true
  stands_listed e c = All-contains (λ (x : Entry). is_shelved m x ≡ true) (shelf_entries m) e all_stand c

  pub listed_standing : (e : Entry) → is_shelved m e ≡ true → Contains (shelf_entries m) e
  listed_standing e t = let f = found_in (get_by_text m e.name) e ((in_set (shelf_at m e.name) e).0 t) in looked e.name m.entries f.0 f.1 e f.2

  -- the shelf of a name has the entries that have it
  pub shelf_is : (name : List ℕ) → (shelf_at m name).keys ≡ filter (entry_has_name name) (shelf_entries m)
  shelf_is name =
      let shelf = shelf_at m name in
      let each = h.each name in
      alike shelf.keys (filter (entry_has_name name) (shelf_entries m)) each.in_order (IsStrictlySortedBy-filter entry_cmp (entry_has_name name) (shelf_entries m) sorted)
      (λ q c.
      let own : q.name ≡ name = All-contains (λ (e : Entry). e.name ≡ name) shelf.keys q each.named c in
      filter_contains (entry_has_name name) (shelf_entries m) q (listed_standing q (subst (λ (n : List ℕ). contains entry_cmp (shelf_at m n) q ≡ true) (sym own) ((in_set shelf q).1 c))) ((bytes_eq-Decides q.name name).1 own))
      (λ q c.
      let both = filter_from (entry_has_name name) (shelf_entries m) q c in
      (in_set shelf q).0 (subst (λ (n : List ℕ). contains entry_cmp (shelf_at m n) q ≡ true) ((bytes_eq-Decides q.name name).0 both.1) (stands_listed q both.0)))

-- shelves on which the same entries stand list the same
pub same_listed : (m n : Shelves) → AreShelved m → AreShelved n → ((e : Entry) → is_shelved n e ≡ is_shelved m e) → shelf_entries n ≡ shelf_entries m
same_listed m n h k same =
    alike (shelf_entries n) (shelf_entries m) (sorted n k) (sorted m h)
    (λ q c. listed_standing m h q (sym (same q) ∙ stands_listed n k q c))
    (λ q c. listed_standing n k q (same q ∙ stands_listed m h q c))

-- of the same shelves
pub shelved_same : (m n : Shelves) → n.entries ≡ m.entries → AreShelved m → AreShelved n
shelved_same m n is h = record {
  in_order = subst (λ (rows : List Row). IsStrictlySortedBy string_cmp (keys_of rows)) (sym is) h.in_order;
  each = λ name. subst (λ (rows : List Row). IsShelfOf name (unwrap_or (lookup (is_at (λ k. slice_cmp nat_cmp name (string_bytes k))) rows) none)) (sym is) (h.each name);
}

-- ---- a change of one shelf

pub same_bytes : (a b : List ℕ) → bytes_eq a b ≡ true → a ≡ b
same_bytes a b t = (bytes_eq-Decides a b).0 t

pub bytes_itself : (a : List ℕ) → bytes_eq a a ≡ true
bytes_itself a = (bytes_eq-Decides a a).1 refl

pub shelf_update : (m n : Shelves) (name : List ℕ) (w : Option (BTreeSet Entry)) → ((cs : List ℕ) → get_by_text n cs ≡ update bytes_eq (get_by_text m) name w cs) → (cs : List ℕ) → shelf_at n cs ≡ cond (bytes_eq name cs) (unwrap_or w none) (shelf_at m cs)
shelf_update m n name w h cs = ap (λ (o : Option (BTreeSet Entry)). unwrap_or o none) (h cs) ∙ elim (bytes_eq name cs) as (λ b. unwrap_or (cond b w (get_by_text m cs)) none ≡ cond b (unwrap_or w none) (shelf_at m cs)) [ true ↦ refl | false ↦ refl ]

pub shelved_update : (m n : Shelves) (name : List ℕ) (shelf : BTreeSet Entry) → AreShelved m → map.IsOrdered string_cmp n → ((cs : List ℕ) → shelf_at n cs ≡ cond (bytes_eq name cs) shelf (shelf_at m cs)) → IsShelfOf name shelf → AreShelved n
shelved_update m n name shelf h ordered put own = record {
  in_order = ordered;
  each = λ cs. subst (IsShelfOf cs) (sym (put cs)) (elim (bytes_eq name cs) as (λ b. bytes_eq name cs ≡ b → IsShelfOf cs (cond b shelf (shelf_at m cs))) [
    | true ↦ λ t. subst (λ (c : List ℕ). IsShelfOf c shelf) (same_bytes name cs t) own
    | false ↦ λ t. h.each cs
  ] refl);
}

module _ (m n : Shelves) (name : List ℕ) (w : Option (BTreeSet Entry)) (put : (cs : List ℕ) → get_by_text n cs ≡ update bytes_eq (get_by_text m) name w cs) where
  abbrev set : BTreeSet Entry
  set = unwrap_or w none

  here : (cs : List ℕ) → shelf_at n cs ≡ cond (bytes_eq name cs) set (shelf_at m cs)
  here = shelf_update m n name w put

  -- the shelf has the same entries
  module _ (same : set.keys ≡ (shelf_at m name).keys) where
    pub stands_still : (q : Entry) → is_shelved n q ≡ is_shelved m q
    stands_still = held_same bytes_eq same_bytes (λ e. e.name) (shelf_at m) (shelf_at n) name set here same

    pub shelved_still : AreShelved m → map.IsOrdered string_cmp n → IsStrictlySortedBy entry_cmp set.keys → AreShelved n
    shelved_still h ordered rises = shelved_update m n name set h ordered here (record { named = subst (All (λ e. e.name ≡ name)) (sym same) (h.each name).named; in_order = rises })

-- the entry alone changed on its shelf
module _ (m n : Shelves) (entry : Entry) (w : Option (BTreeSet Entry)) (put : (cs : List ℕ) → get_by_text n cs ≡ update bytes_eq (get_by_text m) entry.name w cs) (b : Bool) (member : (q : Entry) → contains entry_cmp (unwrap_or w none) q ≡ cond (is_at (entry_cmp entry) q) b (contains entry_cmp (shelf_at m entry.name) q)) where
  pub stands_then : (q : Entry) → is_shelved n q ≡ cond (is_at (entry_cmp entry) q) b (is_shelved m q)
  stands_then = held_update bytes_eq same_bytes bytes_itself (λ e. e.name) (shelf_at m) (shelf_at n) entry (unwrap_or w none) b (shelf_update m n entry.name w put) member

  named : AreShelved m → All (λ e. e.name ≡ entry.name) (unwrap_or w none).keys
  named h k d l =
      let set = unwrap_or w none in
      let x = slice_index_or set.keys k d in
      elim (is_at (entry_cmp entry) x) as (λ t. is_at (entry_cmp entry) x ≡ t → cond t b (contains entry_cmp (shelf_at m entry.name) x) ≡ true → x.name ≡ entry.name) [
        | true ↦ λ t i. ap (λ (e : Entry). e.name) (sym (at_is entry x t))
        | false ↦ λ t i. All-contains (λ (e : Entry). e.name ≡ entry.name) (shelf_at m entry.name).keys x (h.each entry.name).named ((in_set (shelf_at m entry.name) x).0 i)
      ] refl (sym (member x) ∙ (in_set set x).1 (All-contains_itself set.keys k d l))

  pub shelved_then : AreShelved m → map.IsOrdered string_cmp n → IsStrictlySortedBy entry_cmp (unwrap_or w none).keys → AreShelved n
  shelved_then h ordered rises = shelved_update m n entry.name (unwrap_or w none) h ordered (shelf_update m n entry.name w put) (record { named = named h; in_order = rises })

-- what stands on no shelf may be taken off it
pub stands_never : (m : Shelves) (entry : Entry) → (shelf_at m entry.name).keys ≡ [] → (q : Entry) → is_shelved m q ≡ cond (is_at (entry_cmp entry) q) false (is_shelved m q)
stands_never m entry h q = elim (is_at (entry_cmp entry) q) as (λ t. is_at (entry_cmp entry) q ≡ t → is_shelved m q ≡ cond t false (is_shelved m q)) [
  | true ↦ λ t. subst (λ (e : Entry). contains entry_cmp (shelf_at m e.name) q ≡ false) (at_is entry q t) (empty_has (shelf_at m entry.name) h q)
  | false ↦ λ t. refl
] refl
