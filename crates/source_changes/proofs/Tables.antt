-- Tables by keys, and what of two lists is the same.
use Rattle.std.proofs.Common.{◌≡◌, ℕ, zero, suc, ◌+◌, ◌<◌, ◌≤◌, Bool, true, false, List, [], ◌∷◌, ◌++◌, length, take, get_or, map, Option, Some, None, Bor, cond, HashMap, BuildHasherDefault, FoldHasher, refl, ap, sym, ◌∙◌, arith, ⊎_elim, append_assoc, append-nil, ◌==◌, ◌&&◌, option_map, slice_get, count_by, filter}
use Rattle.std.specs.Prelude.{unwrap_or}
use Rattle.std.specs.{Cmp.IsEquivalence, HashMap.get, HashMap.get_by}
use Rattle.std.proofs.lemmas.{Bool.cases_Bool, Bool.Decides.nat_tests, List.map-append, List.take_more, List.Elements.filter-append}
use Rattle.std.proofs.lemmas.List.Sums.{count_by-le-length, length-filter, sum_by-append}
use Rattle.source_changes.specs.declared.matching.Keyed.{Keyed}
use Rattle.source_changes.specs.Matches.{partner, partners_behind, partners, ranks_behind, ranks, pair_now, key_count, CountsKey, same_keys, CountsAll, FindsAll}

pub count_more : {A : Type 0} (p : A → Bool) (xs : List A) (x : A) → count_by p (xs ++ x ∷ []) ≡ count_by p xs + cond (p x) 1 0
count_more p xs x = let one : 0 + cond (p x) 1 0 ≡ cond (p x) 1 0 = omega arith in sum_by-append (λ y. cond (p y) 1 0) xs (x ∷ []) ∙ ap (λ n. count_by p xs + n) one

-- one more is taken off the front of a list
pub next_taken : {A : Type 0} (xs : List A) (i : ℕ) (x : A) → i < length xs → x ≡ get_or xs i x → take (i + 1) xs ≡ take i xs ++ x ∷ []
next_taken xs i x h e = take_more xs i x h ∙ ap (λ y. take i xs ++ y ∷ []) (sym e)

-- ---- the n-th that passes a test

get_more : {A : Type 0} (ys : List A) (x : A) (n : ℕ) → slice_get (ys ++ x ∷ []) n ≡ cond (length ys == n) (Some x) (slice_get ys n)
get_more [] x zero = refl
get_more [] x (suc n) = let no : (0 == suc n) ≡ false = grind (arith, nat_tests) in ap (λ b. cond b (Some x) None) (sym no)
get_more (y ∷ ys) x zero = let no : (suc (length ys) == 0) ≡ false = grind (arith, nat_tests) in ap (λ b. cond b (Some x) (Some y)) (sym no)
get_more (y ∷ ys) x (suc n) = let same : (length ys == n) ≡ (suc (length ys) == suc n) = grind (arith, nat_tests) in get_more ys x n ∙ ap (λ b. cond b (Some x) (slice_get ys n)) same

nth_more : {A : Type 0} (p : A → Bool) (xs : List A) (x : A) (n : ℕ) → slice_get (filter p (xs ++ x ∷ [])) n ≡ cond (p x && count_by p xs == n) (Some x) (slice_get (filter p xs) n)
nth_more p xs x n =
    ap (λ ys. slice_get ys n) (filter-append p xs (x ∷ [])) ∙ ⊎_elim
    (λ (t : p x ≡ true). rw t (get_more (filter p xs) x n ∙ ap (λ m. cond (m == n) (Some x) (slice_get (filter p xs) n)) (length-filter p xs)))
    (λ (t : p x ≡ false). rw t (ap (λ ys. slice_get ys n) (append-nil (filter p xs))))
    (cases_Bool (p x))

-- ---- each of a list with the one that is the same

partners_more : {A : Type 0} (like : A → A → Bool) (others before xs : List A) (x : A) → partners_behind like others before (xs ++ x ∷ []) ≡ partners_behind like others before xs ++ (x, partner like others (before ++ xs) x) ∷ []
partners_more like others before [] x = ap (λ b. (x, partner like others b x) ∷ []) (sym (append-nil before))
partners_more like others before (y ∷ ys) x =
    ap (λ ps. (y, partner like others before y) ∷ ps)
    (partners_more like others (before ++ y ∷ []) ys x ∙ ap (λ b. partners_behind like others (before ++ y ∷ []) ys ++ (x, partner like others b x) ∷ []) (append_assoc before (y ∷ []) ys))

pub pairs_more : {A : Type 0} (like : A → A → Bool) (others xs : List A) (x : A) (pairs pushed : List (Bor A × Option (Bor A))) (p : Bor A × Option (Bor A))
    → pushed ≡ pairs ++ p ∷ [] → pair_now p ≡ (x, partner like others xs x) → map pair_now pairs ≡ partners like others xs → map pair_now pushed ≡ partners like others (xs ++ x ∷ [])
pairs_more like others xs x pairs pushed p e v inv = ap (map pair_now) e ∙ map-append pair_now pairs (p ∷ []) ∙ (λ i. inv i ++ v i ∷ []) ∙ sym (partners_more like others [] xs x)

ranks_behind_more : {A : Type 0} (like : A → A → Bool) (before xs : List A) (x : A) → ranks_behind like before (xs ++ x ∷ []) ≡ ranks_behind like before xs ++ count_by (like x) (before ++ xs) ∷ []
ranks_behind_more like before [] x = ap (λ b. count_by (like x) b ∷ []) (sym (append-nil before))
ranks_behind_more like before (y ∷ ys) x =
    ap (λ ns. count_by (like y) before ∷ ns)
    (ranks_behind_more like (before ++ y ∷ []) ys x ∙ ap (λ b. ranks_behind like (before ++ y ∷ []) ys ++ count_by (like x) b ∷ []) (append_assoc before (y ∷ []) ys))

pub ranks_more : {A : Type 0} (like : A → A → Bool) (xs : List A) (x : A) (done pushed : List ℕ) (n : ℕ) → pushed ≡ done ++ n ∷ [] → n ≡ count_by (like x) xs → done ≡ ranks like xs → pushed ≡ ranks like (xs ++ x ∷ [])
ranks_more like xs x done pushed n e v inv = e ∙ (λ i. inv i ++ v i ∷ []) ∙ sym (ranks_behind_more like [] xs x)

module _ {K : Type 0} {same : K → K → Bool} (laws : IsEquivalence same) where
  -- equal keys have one count
  get_same : (counts : HashMap K ℕ (BuildHasherDefault FoldHasher)) (k q : K) → same k q ≡ true → key_count same counts k ≡ key_count same counts q
  get_same counts k q h = λ i. unwrap_or (get_by (λ z. laws.congr k q z h i) counts) 0

  -- what a table has after a count is put in it
  pub count_put : (old new : HashMap K ℕ (BuildHasherDefault FoldHasher)) (k : K) (n : ℕ) → n ≡ key_count same old k → ((q : K) → get same new q ≡ cond (same k q) (Some (n + 1)) (get same old q)) → CountsKey same old new k
  count_put old new k n e put q = ⊎_elim
      (λ (t : same k q ≡ true).
      let here : get same new q ≡ Some (n + 1) = put q ∙ ap (λ b. cond b (Some (n + 1)) (get same old q)) t in
      ap (λ o. unwrap_or o 0) here ∙ ap (λ m. m + 1) (e ∙ get_same old k q t) ∙ sym (ap (λ b. key_count same old q + cond b 1 0) t))
      (λ (t : same k q ≡ false).
      let there : get same new q ≡ get same old q = put q ∙ ap (λ b. cond b (Some (n + 1)) (get same old q)) t in
      let none : key_count same old q ≡ key_count same old q + 0 = omega arith in
      ap (λ o. unwrap_or o 0) there ∙ none ∙ sym (ap (λ b. key_count same old q + cond b 1 0) t))
      (cases_Bool (same k q))

  module _ {T : Type 0} where
    -- one more is counted
    pub one_counted : (old new : HashMap K ℕ (BuildHasherDefault FoldHasher)) (xs : List (Keyed K T)) (x : Keyed K T) → CountsKey same old new x.key → CountsAll same old xs → CountsAll same new (xs ++ x ∷ [])
    one_counted old new xs x one all q = one q ∙ (λ i. all q i + cond (laws.symm x.key q i) 1 0) ∙ sym (count_more (λ y. same q y.key) xs x)

    -- none is counted more often than there are
    pub counted_within : (counts : HashMap K ℕ (BuildHasherDefault FoldHasher)) (xs : List (Keyed K T)) (k : K) (n : ℕ) → CountsAll same counts xs → length xs < n → key_count same counts k < n
    counted_within counts xs k n all l =
        let few : count_by (λ x. same k x.key) xs ≤ length xs = count_by-le-length (λ x. same k x.key) xs in
        let is : key_count same counts k ≡ count_by (λ x. same k x.key) xs = all k in
        omega arith

    identity_is : (counts : HashMap K ℕ (BuildHasherDefault FoldHasher)) (xs : List (Keyed K T)) (k : K) (n : ℕ) (q : K × ℕ) → CountsAll same counts xs → n ≡ key_count same counts k
        → (same k q.0 && n == q.1) ≡ (same q.0 k && count_by (λ y. same q.0 y.key) xs == q.1)
    identity_is counts xs k n q all e = ⊎_elim
        (λ (t : same k q.0 ≡ true).
        let places : n ≡ count_by (λ y. same q.0 y.key) xs = e ∙ get_same counts k q.0 t ∙ all q.0 in
        λ i. laws.symm k q.0 i && places i == q.1)
        (λ (t : same k q.0 ≡ false). let back : same q.0 k ≡ false = sym (laws.symm k q.0) ∙ t in rw (t, back) refl)
        (cases_Bool (same k q.0))

    -- one more is found
    pub one_found : (old new : HashMap (K × ℕ) (Bor (Keyed K T)) (BuildHasherDefault FoldHasher)) (counts : HashMap K ℕ (BuildHasherDefault FoldHasher)) (xs : List (Keyed K T)) (b : Bor (Keyed K T)) (n : ℕ)
        → CountsAll same counts xs → n ≡ key_count same counts b.now.key
        → ((q : K × ℕ) → get (λ a b. same a.0 b.0 && a.1 == b.1) new q ≡ cond (same b.now.key q.0 && n == q.1) (Some b) (get (λ a b. same a.0 b.0 && a.1 == b.1) old q))
        → FindsAll same old xs → FindsAll same new (xs ++ b.now ∷ [])
    one_found old new counts xs b n all e put finds q =
        ap (option_map (λ (x : Bor (Keyed K T)). x.now)) (put q) ∙ at_either (same b.now.key q.0 && n == q.1)
        ∙ (λ i. cond (identity_is counts xs b.now.key n q all e i) (Some b.now) (finds q i)) ∙ sym (nth_more (λ y. same q.0 y.key) xs b.now q.1)
      where
        at_either : (t : Bool) → option_map (λ (x : Bor (Keyed K T)). x.now) (cond t (Some b) (get (λ a b. same a.0 b.0 && a.1 == b.1) old q)) ≡ cond t (Some b.now) (option_map (λ (x : Bor (Keyed K T)). x.now) (get (λ a b. same a.0 b.0 && a.1 == b.1) old q))
        at_either true = refl
        at_either false = refl

    -- what is found of a key and a count is the one that is the same
    pub found_partner : (table : HashMap (K × ℕ) (Bor (Keyed K T)) (BuildHasherDefault FoldHasher)) (counts : HashMap K ℕ (BuildHasherDefault FoldHasher)) (others xs : List (Keyed K T)) (x : Keyed K T) (n : ℕ) (r : Option (Bor (Keyed K T)))
        → FindsAll same table others → CountsAll same counts xs → n ≡ key_count same counts x.key → r ≡ get (λ a b. same a.0 b.0 && a.1 == b.1) table (x.key, n)
        → option_map (λ (y : Bor (Keyed K T)). y.now) r ≡ partner (same_keys same) others xs x
    found_partner table counts others xs x n r finds all e g = ap (option_map (λ (y : Bor (Keyed K T)). y.now)) g ∙ finds (x.key, n) ∙ ap (slice_get (filter (λ y. same x.key y.key) others)) (e ∙ all x.key)
