-- What follows from what ids are.
use Rattle.std.proofs.Common.{◌≡◌, ℕ, zero, suc, ◌^◌, ◌<◌, ◌≤◌, true, false, ◌∙◌, ap, sym, refl, arith, ⊎_elim, List, length, min}
use Rattle.rust_ids.proofs.Common.{cases_eq, cases_Bool, and_left, and_from, and_parts, same_lists, get_or_default, FileAstId, Row, nth_row, id_at, depth_at, count_below, key_of, kind_place, same_key, comes_before, earlier_alike, hash_of, AreIds, AreDistinctIds, AreDetermined}
use Rattle.rust_ids.proofs.CountsBelow.{count_below_lt, count_below_bound}
use Rattle.rust_ids.proofs.Order.{not_before_itself, before_onward, before_or_after, depth_if_before, module_around_same, number_of_same}

same_key_itself : (id : FileAstId) → same_key (key_of id) (key_of id) ≡ true
same_key_itself id = grind arith

-- the later of two of one kind and hash has more before it
number_more : (rows : List Row) (ids : List FileAstId) (i j : ℕ) → i < length rows → id_at ids i ≡ id_at ids j →
    comes_before rows i j ≡ true → earlier_alike rows ids i < earlier_alike rows ids j
number_more rows ids i j l e t =
    count_below_lt _ _ i (length rows) l
    (and_left _ _ (not_before_itself rows i))
    (and_from _ _ t (ap (λ x. same_key (key_of (id_at ids i)) (key_of x)) (sym e) ∙ same_key_itself (id_at ids i)))
    (λ k m h. let parts = and_parts (comes_before rows k i) (same_key (key_of (id_at ids k)) (key_of (id_at ids i))) h in
    and_from _ _ (before_onward rows k i j parts.0 t) (ap (λ x. same_key (key_of (id_at ids k)) (key_of x)) (sym e) ∙ parts.1))

-- an item does not come before itself, so fewer than all do
number_below : (rows : List Row) (ids : List FileAstId) (i : ℕ) → i < length rows → earlier_alike rows ids i < length rows
number_below rows ids i l =
    let fewer : earlier_alike rows ids i < count_below (λ _. true) (length rows) = count_below_lt _ (λ _. true) i (length rows) l (and_left _ _ (not_before_itself rows i)) refl (λ j m h. refl) in
    let all : count_below (λ _. true) (length rows) ≤ length rows = count_below_bound (λ _. true) (length rows) in
    omega arith

one_way : (rows : List Row) (ids : List FileAstId) → length rows ≤ 2 ^ 32 → AreIds rows ids → (i j : ℕ) → i < length rows → j < length rows →
    id_at ids i ≡ id_at ids j → comes_before rows i j ≡ false
one_way rows ids short are i j l m e = ⊎_elim
    (λ (t : comes_before rows i j ≡ true).
    let more : earlier_alike rows ids i < earlier_alike rows ids j = number_more rows ids i j l e t in
    let below : earlier_alike rows ids j < length rows = number_below rows ids j m in
    let one : (id_at ids i).number ≡ min (earlier_alike rows ids i) 4294967295 = (are.each i l).number in
    let two : (id_at ids j).number ≡ min (earlier_alike rows ids j) 4294967295 = (are.each j m).number in
    let same : (id_at ids i).number ≡ (id_at ids j).number = ap (λ x. x.number) e in
    absurd (omega arith))
    (λ f. f)
    (cases_Bool (comes_before rows i j))

pub distinct : (rows : List Row) (ids : List FileAstId) → AreIds rows ids → length rows ≤ 4294967296 → AreDistinctIds ids
distinct rows ids are short i j l m e =
    let as_many : length ids ≡ length rows = are.as_many in
    let l' : i < length rows = omega arith in
    let m' : j < length rows = omega arith in
    ⊎_elim (λ (same : i ≡ j). same)
    (λ ne. let back : comes_before rows j i ≡ true = before_or_after rows i j ne (one_way rows ids short are i j l' m' e) in
    let none : comes_before rows j i ≡ false = one_way rows ids short are j i m' l' (sym e) in cc)
    (cases_eq i j)

-- where the ids of all that is less deep than a depth are the same, so are those of that depth
same_next : (rows : List Row) (a b : List FileAstId) → AreIds rows a → AreIds rows b → (depth : ℕ) →
    ((i : ℕ) → i < length rows → depth_at rows i < depth → id_at b i ≡ id_at a i) →
    (i : ℕ) → i < length rows → depth_at rows i < suc depth → id_at b i ≡ id_at a i
same_next rows a b are bre depth less i l d = same_id i l d
  where
    same_key_at : (j : ℕ) → j < length rows → depth_at rows j < suc depth → ((id_at b j).kind ≡ (id_at a j).kind) × ((id_at b j).hash ≡ (id_at a j).hash)
    same_key_at j m h = (
      (bre.each j m).kind ∙ sym (are.each j m).kind,
      (bre.each j m).hash
          ∙ (ap (hash_of (nth_row rows j)) (module_around_same rows a b j (λ k n e. less k (omega arith) (omega arith)))
          ∙ sym (are.each j m).hash),
    )

    key_at : (j : ℕ) → j < length rows → depth_at rows j < suc depth → key_of (id_at b j) ≡ key_of (id_at a j)
    key_at j m h = let e = same_key_at j m h in let e0 : (id_at b j).kind ≡ (id_at a j).kind = e.0 in let e1 : (id_at b j).hash ≡ (id_at a j).hash = e.1 in
        ap (λ k. (kind_place k, (id_at b j).hash)) e0 ∙ ap (λ h. (kind_place (id_at a j).kind, h)) e1

    same_number : (j : ℕ) → j < length rows → depth_at rows j < suc depth → (id_at b j).number ≡ (id_at a j).number
    same_number j m h =
        (bre.each j m).number
        ∙ (ap (λ n. min n 4294967295) (number_of_same rows a b j (key_at j m h)
        (λ k n t. let le : depth_at rows k ≤ depth_at rows j = depth_if_before rows k j t in key_at k n (omega arith)))
        ∙ sym (are.each j m).number)

    same_id : (j : ℕ) → j < length rows → depth_at rows j < suc depth → id_at b j ≡ id_at a j
    same_id j m h =
        let e = same_key_at j m h in
        let e0 : (id_at b j).kind ≡ (id_at a j).kind = e.0 in
        let e1 : (id_at b j).hash ≡ (id_at a j).hash = e.1 in
        let e2 : (id_at b j).number ≡ (id_at a j).number = same_number j m h in
        ap (λ k. record { kind = k; hash = (id_at b j).hash; number = (id_at b j).number }) e0
        ∙ (ap (λ k. record { kind = (id_at a j).kind; hash = k; number = (id_at b j).number }) e1
        ∙ ap (λ k. record { kind = (id_at a j).kind; hash = (id_at a j).hash; number = k }) e2)

same_to : (rows : List Row) (a b : List FileAstId) → AreIds rows a → AreIds rows b → (depth i : ℕ) → i < length rows → depth_at rows i < depth → id_at b i ≡ id_at a i
same_to rows a b are bre zero i l d = absurd (omega arith)
same_to rows a b are bre (suc depth) i l d = same_next rows a b are bre depth (same_to rows a b are bre depth) i l d

pub determined : AreDetermined
determined rows a b are bre =
    same_lists a b (are.as_many ∙ sym bre.as_many)
    (λ k d l.
    let e : length a ≡ length rows = are.as_many in
    let f : length b ≡ length rows = bre.as_many in
    get_or_default a k d _ l ∙ (sym (same_to rows a b are bre (suc (depth_at rows k)) k (omega arith) (omega arith)) ∙ get_or_default b k _ d (omega arith)))
