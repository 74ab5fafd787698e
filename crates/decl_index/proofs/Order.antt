-- Entries that are equal by their order are one.
use Rattle.decl_index.proofs.Common.{◌≡◌, ℕ, ◌<◌, ◌+◌, ◌++◌, ◌↔◌, ◌||◌, ◌&&◌, not, take, zero, Bool, true, false, true≢false, cond, suc, List, [], ◌∷◌, All, Contains, Err, Ok, OnErr, OnOk, Result, length, refl, ap, sym, subst, ◌∙◌, arith, nat_eq, is_at, is_eq, nat_cmp, ordering_then, nat_tests, place_cmp, Entry, name_cmp, entry_cmp, entry_cmp_total, is_entry_among, tied_itself, All-cons, All-contains, All-nil, All-weaker, CmpEqualImpliesEq, IsStrictlySortedBy, btree_set_contains_iff, btree_set_from_contains, exact_bytes, exact_pairs, exact_unsigned, tells_apart, id_cmp, id_cmp_ties, equal_of}
use Rattle.std.specs.BTreeSet.{BTreeSet, contains}
use Rattle.std.specs.Cmp.{eq_by_cmp_equiv}
use Rattle.std.proofs.Common.{get_or}
use Rattle.std.proofs.lemmas.Bool.Decides.{same_from_decides}
use Rattle.std.proofs.lemmas.List.{take_more}

pub exact_places : CmpEqualImpliesEq place_cmp
exact_places p q h = equal_of p q (ap is_eq h)

exact_ids : CmpEqualImpliesEq id_cmp
exact_ids i j h = let same : nat_eq i j ≡ true = id_cmp_ties i j ∙ ap is_eq h in grind (arith, nat_tests)

pub exact_entries : CmpEqualImpliesEq entry_cmp
exact_entries a b h =
    let named = exact_pairs name_cmp place_cmp exact_bytes exact_places in
    let known = exact_pairs (λ x y. ordering_then (name_cmp x.0 y.0) (place_cmp x.1 y.1)) nat_cmp named exact_unsigned in
    let all = exact_pairs (λ x y. ordering_then (ordering_then (name_cmp x.0.0 y.0.0) (place_cmp x.0.1 y.0.1)) (nat_cmp x.1 y.1)) id_cmp known exact_ids in
    let e = all (((a.name, a.place), a.krate.0), a.id) (((b.name, b.place), b.krate.0), b.id) h in
    λ j. record { name = (e j).0.0.0; place = (e j).0.0.1; krate = record { 0 = (e j).0.1 }; id = (e j).1 }

or_true : (b c : Bool) → c ≡ true → (b || c) ≡ true
or_true true c e = refl
or_true false c e = e

-- ---- sets of entries

abbrev keys : List Entry → BTreeSet Entry
keys entries = record { keys = entries }

pub in_set : (set : BTreeSet Entry) (q : Entry) → contains entry_cmp set q ≡ true ↔ Contains set.keys q
in_set set q = btree_set_contains_iff entry_cmp_total exact_entries set q

-- lists in order with the same entries are one
pub alike : (xs ys : List Entry) → IsStrictlySortedBy entry_cmp xs → IsStrictlySortedBy entry_cmp ys → ((q : Entry) → Contains xs q → Contains ys q) → ((q : Entry) → Contains ys q → Contains xs q) → xs ≡ ys
alike xs ys h k there back =
    let has = λ (zs : List Entry) (q : Entry). btree_set_contains_iff entry_cmp_total exact_entries (keys zs) q in
    let same = λ (q : Entry). same_from_decides (contains entry_cmp (keys xs) q) (contains entry_cmp (keys ys) q) (has xs q) (λ t. back q ((has ys q).0 t), λ i. (has ys q).1 (there q i)) in
    btree_set_from_contains entry_cmp_total (keys xs) (keys ys) h k same exact_entries

pub at_is : (e q : Entry) → is_at (entry_cmp e) q ≡ true → e ≡ q
at_is e q t = tells_apart exact_entries e q t

-- an entry is among some if the order finds it there
pub among : (q : Entry) (entries : List Entry) → is_entry_among q entries ≡ true → Contains entries q
among q [] h = absurd cc
among q (e ∷ entries) h = elim (is_at (entry_cmp e) q) as (λ b. is_at (entry_cmp e) q ≡ b → (b || is_entry_among q entries) ≡ true → Contains (e ∷ entries) q) [
  | true ↦ λ t g. subst (Contains (e ∷ entries)) (at_is e q t) (0, omega arith, refl)
  | false ↦ λ t g. let rest = among q entries g in (suc rest.0, omega (arith, rest.1), rest.2)
] refl h

at_itself : (q : Entry) → is_at (entry_cmp q) q ≡ true
at_itself q = ap is_eq (tied_itself entry_cmp_total q)

pub is_among_all : (entries : List Entry) → All (λ q. is_entry_among q entries ≡ true) entries
is_among_all [] = All-nil (λ q. is_entry_among q [] ≡ true)
is_among_all (e ∷ entries) = All-cons (λ q. is_entry_among q (e ∷ entries) ≡ true) e entries (ap (λ (b : Bool). b || is_entry_among e entries) (at_itself e)) (All-weaker (λ q. is_entry_among q entries ≡ true) (λ q. is_entry_among q (e ∷ entries) ≡ true) (λ q h. or_true (is_at (entry_cmp e) q) (is_entry_among q entries) h) entries (is_among_all entries))

pub is_among_from : (q : Entry) (entries : List Entry) → Contains entries q → is_entry_among q entries ≡ true
is_among_from q entries c = All-contains (λ (x : Entry). is_entry_among x entries ≡ true) entries q (is_among_all entries) c

pub among_first : (q : Entry) (n : ℕ) (entries : List Entry) → is_entry_among q entries ≡ false → is_entry_among q (take n entries) ≡ false
among_first q zero entries h = refl
among_first q (suc n) [] h = refl
among_first q (suc n) (e ∷ entries) h = elim (is_at (entry_cmp e) q) as (λ b. (b || is_entry_among q entries) ≡ false → (b || is_entry_among q (take n entries)) ≡ false) [
  | true ↦ λ g. g
  | false ↦ λ g. among_first q n entries g
] h

-- all but these and then these too
pub back_again : (old part all : Bool) → (all ≡ true → old ≡ false) → (all ≡ false → part ≡ false) → ((old || part) && not all) ≡ old
back_again old part true apart first = elim (old || part) as (λ b. (b && false) ≡ old) [ true ↦ sym (apart refl) | false ↦ sym (apart refl) ]
back_again true part false apart first = refl
back_again false part false apart first = ap (λ (b : Bool). b && true) (first refl)

-- one more of them
among_push : (q : Entry) (xs : List Entry) (x : Entry) → is_entry_among q (xs ++ x ∷ []) ≡ (is_entry_among q xs || is_at (entry_cmp x) q)
among_push q [] x = elim (is_at (entry_cmp x) q) as (λ b. (b || false) ≡ b) [ true ↦ refl | false ↦ refl ]
among_push q (e ∷ xs) x = elim (is_at (entry_cmp e) q) as (λ b. (b || is_entry_among q (xs ++ x ∷ [])) ≡ ((b || is_entry_among q xs) || is_at (entry_cmp x) q)) [ true ↦ refl | false ↦ among_push q xs x ]

among_more : (q : Entry) (xs : List Entry) (i : ℕ) (x : Entry) → i < length xs → x ≡ get_or xs i x → is_entry_among q (take (i + 1) xs) ≡ (is_entry_among q (take i xs) || is_at (entry_cmp x) q)
among_more q xs i x within is = ap (is_entry_among q) (take_more xs i x within) ∙ ap (λ (y : Entry). is_entry_among q (take i xs ++ y ∷ [])) (sym is) ∙ among_push q (take i xs) x

in_more : (at old part : Bool) → cond at true (old || part) ≡ (old || (part || at))
in_more true true part = refl
in_more true false true = refl
in_more true false false = refl
in_more false true part = refl
in_more false false true = refl
in_more false false false = refl

out_more : (at old part : Bool) → cond at false (old && not part) ≡ (old && not (part || at))
out_more true true true = refl
out_more true true false = refl
out_more true false part = refl
out_more false true true = refl
out_more false true false = refl
out_more false false part = refl

module _ (xs : List Entry) (i : ℕ) (x : Entry) (within : i < length xs) (is : x ≡ get_or xs i x) (old part new : Entry → Bool) where
  pub put_step : ((q : Entry) → part q ≡ (old q || is_entry_among q (take i xs))) → ((q : Entry) → new q ≡ cond (is_at (entry_cmp x) q) true (part q)) → (q : Entry) → new q ≡ (old q || is_entry_among q (take (i + 1) xs))
  put_step h k q = k q ∙ ap (λ (b : Bool). cond (is_at (entry_cmp x) q) true b) (h q) ∙ in_more (is_at (entry_cmp x) q) (old q) (is_entry_among q (take i xs)) ∙ ap (λ (b : Bool). old q || b) (sym (among_more q xs i x within is))

  pub take_step : ((q : Entry) → part q ≡ (old q && not (is_entry_among q (take i xs)))) → ((q : Entry) → new q ≡ cond (is_at (entry_cmp x) q) false (part q)) → (q : Entry) → new q ≡ (old q && not (is_entry_among q (take (i + 1) xs)))
  take_step h k q = k q ∙ ap (λ (b : Bool). cond (is_at (entry_cmp x) q) false b) (h q) ∙ out_more (is_at (entry_cmp x) q) (old q) (is_entry_among q (take i xs)) ∙ ap (λ (b : Bool). old q && not b) (sym (among_more q xs i x within is))

-- a set of one entry, and one of none
pub only_has : (set : BTreeSet Entry) (e : Entry) → set.keys ≡ e ∷ [] → (q : Entry) → contains entry_cmp set q ≡ cond (is_at (entry_cmp e) q) true false
only_has set e h q = ap (λ (ks : List Entry). contains entry_cmp (keys ks) q) h ∙ elim (is_at (entry_cmp q) e) as (λ b. (b || false) ≡ cond b true false) [ true ↦ refl | false ↦ refl ] ∙ ap (λ (b : Bool). cond b true false) ((eq_by_cmp_equiv entry_cmp_total).symm q e)

pub only_rises : (set : BTreeSet Entry) (e : Entry) → set.keys ≡ e ∷ [] → IsStrictlySortedBy entry_cmp set.keys
unfolding IsStrictlySortedBy
only_rises set e h = subst (IsStrictlySortedBy entry_cmp) (sym h) (tt, tt)

pub empty_has : (set : BTreeSet Entry) → set.keys ≡ [] → (q : Entry) → contains entry_cmp set q ≡ false
empty_has set h q = ap (λ (ks : List Entry). contains entry_cmp (keys ks) q) h

pub empty_rises : IsStrictlySortedBy entry_cmp []
unfolding IsStrictlySortedBy
empty_rises = tt

-- ---- what is held under keys

module _ {K : Type 0} (same : K → K → Bool) (exact : (k l : K) → same k l ≡ true → k ≡ l) (itself : (k : K) → same k k ≡ true) (key : Entry → K) (old new : K → BTreeSet Entry) (entry : Entry) (set : BTreeSet Entry) where
  other : (q : Entry) → same (key entry) (key q) ≡ false → is_at (entry_cmp entry) q ≡ false
  other q f = elim (is_at (entry_cmp entry) q) as (λ b. is_at (entry_cmp entry) q ≡ b → b ≡ false) [
    | true ↦ λ t. absurd (true≢false (sym (itself (key entry)) ∙ ap (λ (e : Entry). same (key entry) (key e)) (at_is entry q t) ∙ f))
    | false ↦ λ t. refl
  ] refl

  -- the set of the entry's key is a new one, in which the entry alone changed
  pub held_update : (b : Bool) → ((k : K) → new k ≡ cond (same (key entry) k) set (old k)) → ((q : Entry) → contains entry_cmp set q ≡ cond (is_at (entry_cmp entry) q) b (contains entry_cmp (old (key entry)) q))
      → (q : Entry) → contains entry_cmp (new (key q)) q ≡ cond (is_at (entry_cmp entry) q) b (contains entry_cmp (old (key q)) q)
  held_update b put h q = ap (λ (s : BTreeSet Entry). contains entry_cmp s q) (put (key q)) ∙ elim (same (key entry) (key q)) as (λ t. same (key entry) (key q) ≡ t → contains entry_cmp (cond t set (old (key q))) q ≡ cond (is_at (entry_cmp entry) q) b (contains entry_cmp (old (key q)) q)) [
    | true ↦ λ t. subst (λ (k : K). contains entry_cmp set q ≡ cond (is_at (entry_cmp entry) q) b (contains entry_cmp (old k) q)) (exact (key entry) (key q) t) (h q)
    | false ↦ λ t. sym (ap (λ (e : Bool). cond e b (contains entry_cmp (old (key q)) q)) (other q t))
  ] refl

-- the set of a key is another one of the same entries
pub held_same : {K : Type 0} (same : K → K → Bool) → ((k l : K) → same k l ≡ true → k ≡ l) → (key : Entry → K) (old new : K → BTreeSet Entry) (at : K) (set : BTreeSet Entry) → ((k : K) → new k ≡ cond (same at k) set (old k)) → set.keys ≡ (old at).keys
    → (q : Entry) → contains entry_cmp (new (key q)) q ≡ contains entry_cmp (old (key q)) q
held_same {K} same exact key old new at set put h q = ap (λ (s : BTreeSet Entry). contains entry_cmp s q) (put (key q)) ∙ elim (same at (key q)) as (λ t. same at (key q) ≡ t → contains entry_cmp (cond t set (old (key q))) q ≡ contains entry_cmp (old (key q)) q) [
  | true ↦ λ t. ap (λ (ks : List Entry). contains entry_cmp (keys ks) q) h ∙ ap (λ (k : K). contains entry_cmp (old k) q) (exact at (key q) t)
  | false ↦ λ t. refl
] refl

-- ---- what is said of results

pub on_err : {A B : Type 0} (P : Type 0) (r : Result A B) → P → OnErr r P
on_err P (Ok a) p = tt
on_err P (Err e) p = p

pub ok_then : {A B : Type 0} (P Q : Type 0) (r : Result A B) → (P → Q) → OnOk r P → OnOk r Q
ok_then P Q (Ok a) f p = f p
ok_then P Q (Err e) f p = tt

pub err_then : {A B : Type 0} (P Q : Type 0) (r : Result A B) → (P → Q) → OnErr r P → OnErr r Q
err_then P Q (Ok a) f p = tt
err_then P Q (Err e) f p = f p
