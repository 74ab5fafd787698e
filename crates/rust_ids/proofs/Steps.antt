-- What a step of giving ids leaves.
use Rattle.std.proofs.Common.{◌≡◌, ◌≢◌, ℕ, suc, ◌+◌, ◌-◌, ◌<◌, ◌≤◌, Bool, true, false, cond, ◌&&◌, [], ◌∙◌, ap, sym, refl, arith, Option, Some, None, ⊎_elim, List, length, min, eqb, ltb, leb, set, get_or, get_or-set_other, get_or-set_same, length-set, MatchOption, subst}
use Rattle.std.specs.Option.{unwrap_or}
use Rattle.std.specs.Map.{lookup}
use Rattle.rust_ids.proofs.Common.{nat_tests, get_or_default, cases_eq, cases_Bool, le-leb, both_ways, and_left, and_right, and_from, FileAstId, Row, nth_row, id_at, depth_at, count_below, last_below, module_at, module_around, hash_of, Key, kind_place, key_of, same_key, comes_before, earlier_alike, IsId, AreIds, Counts, count_of, CountsOne, is_numbered_before, IsNumbered, IsNextDepth}
use Rattle.hir_input.specs.declared.ids.AstIdKind.{AstIdKind}
use Rattle.rust_ids.proofs.CountsBelow.{count_below_same, count_below_one, count_below_bound, count_below_none}
use Rattle.rust_ids.proofs.Order.{not_before_itself, before_one_way, module_around_same, IsId-same, and_same}

-- tests that agree on all items
pub numbered_same : (p q : ℕ → Bool) (rows : List Row) (ids : List FileAstId) (counts : Counts) →
    ((j : ℕ) → j < length rows → q j ≡ p j) → IsNumbered p rows ids counts → IsNumbered q rows ids counts
numbered_same p q rows ids counts h n = record {
  as_many = n.as_many;
  each = λ i l t. n.each i l (sym (h i l) ∙ t);
  counted = λ k. n.counted k ∙ count_below_same _ _ (length rows) (λ j l. ap (λ b. b && same_key (key_of (id_at ids j)) k) (sym (h j l)));
}

id_at_here : (ids : List FileAstId) (k : ℕ) (id : FileAstId) → k < length ids → id_at (set ids k id) k ≡ id
id_at_here ids k id l = rw get_or-set_same refl

id_at_other : (ids : List FileAstId) (k : ℕ) (id : FileAstId) (j : ℕ) → j ≢ k → id_at (set ids k id) j ≡ id_at ids j
id_at_other ids k id j ne = rw get_or-set_other refl

-- what is before a place is not at it
apart : (rows : List Row) (j k : ℕ) → comes_before rows j k ≡ true → j ≢ k
apart rows j k h e = let no : comes_before rows k k ≡ false = not_before_itself rows k in let yes : comes_before rows k k ≡ true = ap (λ n. comes_before rows n k) (sym e) ∙ h in cc

-- one more item is given its id: all that come before it have theirs
pub numbered_more : (p q : ℕ → Bool) (rows : List Row) (ids : List FileAstId) (counts new : Counts) (k : ℕ) (id : FileAstId) →
    k < length rows → IsNumbered p rows ids counts →
    ((j : ℕ) → p j ≡ comes_before rows j k) → q k ≡ true → ((j : ℕ) → j ≢ k → q j ≡ p j) →
    id.kind ≡ (nth_row rows k).kind →
    id.hash ≡ hash_of (nth_row rows k) (module_around rows ids k) →
    id.number ≡ min (count_of counts (key_of id)) 4294967295 →
    CountsOne counts new (key_of id) →
    IsNumbered q rows (set ids k id) new
numbered_more p q rows ids counts new k id l n order here others kind hash number one = record {
  as_many = length-set ids k id ∙ n.as_many;
  each = each;
  counted = counted;
}
  where
    at_k : id_at (set ids k id) k ≡ id
    at_k = let e : length ids ≡ length rows = n.as_many in id_at_here ids k id (omega arith)

    key_same : (j : ℕ) → j ≢ k → key_of (id_at (set ids k id) j) ≡ key_of (id_at ids j)
    key_same j ne = ap key_of (id_at_other ids k id j ne)

    counted_k : count_of counts (key_of id) ≡ earlier_alike rows (set ids k id) k
    counted_k = n.counted (key_of id) ∙ count_below_same _ _ (length rows) (λ j m.
        ap (λ b. b && same_key (key_of (id_at ids j)) (key_of id)) (order j)
        ∙ and_same (comes_before rows j k) _ _ (λ t.
        ap (λ a. same_key a (key_of id)) (sym (key_same j (apart rows j k t)))
        ∙ ap (λ i. same_key (key_of (id_at (set ids k id) j)) (key_of i)) (sym at_k)))

    each_k : IsId rows (set ids k id) k
    each_k = record {
      kind = ap (λ i. i.kind) at_k ∙ kind;
      hash = ap (λ i. i.hash) at_k ∙ (hash ∙ ap (hash_of (nth_row rows k)) (sym (module_around_same rows ids (set ids k id) k (λ j m e. id_at_other ids k id j (omega arith)))));
      number = ap (λ i. i.number) at_k ∙ (number ∙ ap (λ m. min m 4294967295) counted_k);
    }

    each_other : (i : ℕ) → i < length rows → q i ≡ true → i ≢ k → IsId rows (set ids k id) i
    each_other i m t ne =
        let yes : comes_before rows i k ≡ true = sym (order i) ∙ (sym (others i ne) ∙ t) in
        IsId-same rows ids (set ids k id) i (id_at_other ids k id i ne) (λ j h. id_at_other ids k id j (λ e. both_ways (comes_before rows k i) (before_one_way rows i k yes) (ap (λ x. comes_before rows x i) (sym e) ∙ h)))
        (n.each i m (order i ∙ yes))

    each : (i : ℕ) → i < length rows → q i ≡ true → IsId rows (set ids k id) i
    each i m t = ⊎_elim (λ (e : i ≡ k). subst (λ x. IsId rows (set ids k id) x) (sym e) each_k) (λ ne. each_other i m t ne) (cases_eq i k)

    off : (w : Key) → (p k && same_key (key_of (id_at ids k)) w) ≡ false
    off w = and_left (p k) _ (order k ∙ not_before_itself rows k)

    rest : (w : Key) (j : ℕ) → j ≢ k → (q j && same_key (key_of (id_at (set ids k id) j)) w) ≡ (p j && same_key (key_of (id_at ids j)) w)
    rest w j ne = ap (λ b. b && same_key (key_of (id_at (set ids k id) j)) w) (others j ne) ∙ ap (λ a. p j && same_key a w) (key_same j ne)

    key_k : (w : Key) → same_key (key_of (id_at (set ids k id) k)) w ≡ same_key (key_of id) w
    key_k w = ap (λ i. same_key (key_of i) w) at_k

    counted : (w : Key) → count_of new w ≡ count_below (λ j. q j && same_key (key_of (id_at (set ids k id) j)) w) (length rows)
    counted w = ⊎_elim
        (λ (e : same_key (key_of id) w ≡ true).
        one w ∙ (ap (λ b. count_of counts w + cond b 1 0) e ∙ (ap (λ c. c + 1) (n.counted w)
        ∙ sym (count_below_one _ _ k (length rows) l (off w) (and_from (q k) _ here (key_k w ∙ e)) (λ j m ne. rest w j ne)))))
        (λ (e : same_key (key_of id) w ≡ false).
        let zero : count_of counts w + 0 ≡ count_of counts w = omega arith in
        one w ∙ (ap (λ b. count_of counts w + cond b 1 0) e ∙ (zero ∙ (n.counted w
        ∙ count_below_same _ _ (length rows) (λ j m. ⊎_elim
        (λ (f : j ≡ k). subst (λ x. (p x && same_key (key_of (id_at ids x)) w) ≡ (q x && same_key (key_of (id_at (set ids k id) x)) w)) (sym f) (off w ∙ sym (and_right (q k) _ (key_k w ∙ e))))
        (λ ne. sym (rest w j ne)) (cases_eq j k))))))
        (cases_Bool (same_key (key_of id) w))

-- the items of one depth before a place, and then the one at the place
pub reached_here : (rows : List Row) (at : ℕ) (j : ℕ) → is_numbered_before rows (depth_at rows at) at j ≡ comes_before rows j at
reached_here rows at j = refl

pub reached_more : (rows : List Row) (depth at j : ℕ) → j ≢ at → is_numbered_before rows depth (at + 1) j ≡ is_numbered_before rows depth at j
reached_more rows depth at j ne = grind (arith, nat_tests)

pub reached_now : (rows : List Row) (depth at : ℕ) → depth_at rows at ≡ depth → is_numbered_before rows depth (at + 1) at ≡ true
reached_now rows depth at e = grind (arith, nat_tests)

-- one of another depth changes nothing
pub reached_past : (rows : List Row) (depth at j : ℕ) → depth_at rows at ≢ depth → is_numbered_before rows depth (at + 1) j ≡ is_numbered_before rows depth at j
reached_past rows depth at j ne = ⊎_elim
    (λ (e : j ≡ at). let ne' : depth_at rows j ≢ depth = subst (λ x. depth_at rows x ≢ depth) (sym e) ne in grind (arith, nat_tests))
    (λ n. reached_more rows depth at j n)
    (cases_eq j at)

-- what is read at a place is what stands there
row_read : (rows : List Row) (at : ℕ) (row : Row) → at < length rows → row ≡ get_or rows at row → nth_row rows at ≡ row
row_read rows at row l is = get_or_default rows at _ row l ∙ sym is

pub numbered_past : (rows : List Row) (depth at : ℕ) (row : Row) (ids : List FileAstId) (counts : Counts) →
    at < length rows → row ≡ get_or rows at row → row.depth ≢ depth →
    IsNumbered (is_numbered_before rows depth at) rows ids counts → IsNumbered (is_numbered_before rows depth (at + 1)) rows ids counts
numbered_past rows depth at row ids counts l is ne n =
    numbered_same _ _ rows ids counts (λ j m. reached_past rows depth at j (λ e. ne (ap (λ r. r.depth) (sym (row_read rows at row l is)) ∙ e))) n

pub numbered_here : (rows : List Row) (depth at : ℕ) (row : Row) (last : Option ℕ) (ids : List FileAstId) (counts new : Counts) →
    (kind : AstIdKind) (place hash number : ℕ) (outer : Option FileAstId) →
    at < length rows → row ≡ get_or rows at row → row.depth ≡ depth → last ≡ last_below (λ j. eqb (suc (depth_at rows j)) depth) at →
    IsNumbered (is_numbered_before rows depth at) rows ids counts →
    kind ≡ row.kind → place ≡ kind_place kind → hash ≡ hash_of row outer → outer ≡ module_at ids last →
    number ≡ min (count_of counts (place, hash)) 4294967295 → CountsOne counts new (place, hash) →
    IsNumbered (is_numbered_before rows depth (at + 1)) rows (set ids at (record { kind = kind; hash = hash; number = number })) new
numbered_here rows depth at row last ids counts new kind place hash number outer l is deep around n kind_is place_is hash_is outer_is number_is one =
    numbered_more (is_numbered_before rows depth at) (is_numbered_before rows depth (at + 1)) rows ids counts new at (record { kind = kind; hash = hash; number = number }) l n
    (λ j. ap (λ d. is_numbered_before rows d at j) (sym deep_at))
    (reached_now rows depth at deep_at)
    (λ j ne. reached_more rows depth at j ne)
    (kind_is ∙ ap (λ r. r.kind) (sym read))
    (hash_is ∙ (ap (λ r. hash_of r outer) (sym read) ∙ ap (hash_of (nth_row rows at)) (outer_is ∙ ap (module_at ids) (around ∙ ap (λ d. last_below (λ j. eqb (suc (depth_at rows j)) d) at) (sym deep_at)))))
    (number_is ∙ ap (λ p. min (count_of counts (p, hash)) 4294967295) place_is)
    (subst (λ p. CountsOne counts new (p, hash)) place_is one)
  where
    read : nth_row rows at ≡ row
    read = row_read rows at row l is

    deep_at : depth_at rows at ≡ depth
    deep_at = ap (λ r. r.depth) read ∙ deep

-- no more are counted than there are
pub counted_le : (p : ℕ → Bool) (rows : List Row) (ids : List FileAstId) (counts : Counts) (key : Key) → IsNumbered p rows ids counts → count_of counts key ≤ length rows
counted_le p rows ids counts key n =
    let e : count_of counts key ≡ count_below (λ j. p j && same_key (key_of (id_at ids j)) key) (length rows) = n.counted key in
    let b : count_below (λ j. p j && same_key (key_of (id_at ids j)) key) (length rows) ≤ length rows = count_below_bound _ _ in
    omega arith

-- no item is less deep than 0
pub numbered_none : (rows : List Row) (ids : List FileAstId) (counts : Counts) → length ids ≡ length rows → counts.entries ≡ [] →
    IsNumbered (is_numbered_before rows 0 0) rows ids counts
numbered_none rows ids counts l e = record {
  as_many = l;
  each = λ i m t. let no : is_numbered_before rows 0 0 i ≡ false = none i in absurd (both_ways _ no t);
  counted = λ q. ap (λ es. unwrap_or (lookup (same_key q) es) 0) e ∙ sym (count_below_none _ (length rows) (λ j. and_left _ _ (none j)));
}
  where
    none : (i : ℕ) → is_numbered_before rows 0 0 i ≡ false
    none i = grind (arith, nat_tests)

reached_all : (rows : List Row) (depth j : ℕ) → j < length rows → is_numbered_before rows depth (length rows) j ≡ leb (depth_at rows j) depth
reached_all rows depth j l = grind (arith, nat_tests)

reached_none : (rows : List Row) (depth j : ℕ) → is_numbered_before rows depth 0 j ≡ ltb (depth_at rows j) depth
reached_none rows depth j = grind (arith, nat_tests)

-- from the items of one depth to those of the next
pub numbered_next : (rows : List Row) (depth deeper : ℕ) (ids : List FileAstId) (counts : Counts) →
    IsNextDepth rows depth (Some deeper) → IsNumbered (is_numbered_before rows depth (length rows)) rows ids counts → IsNumbered (is_numbered_before rows deeper 0) rows ids counts
numbered_next rows depth deeper ids counts next n =
    numbered_same _ _ rows ids counts (λ j l. reached_none rows deeper j ∙ (sym (next.1 j l) ∙ sym (reached_all rows depth j l))) n

-- behind the last depth
pub numbered_all : (rows : List Row) (depth : ℕ) (ids : List FileAstId) (counts : Counts) →
    IsNextDepth rows depth None → IsNumbered (is_numbered_before rows depth (length rows)) rows ids counts → AreIds rows ids
numbered_all rows depth ids counts last n = record {
  as_many = n.as_many;
  each = λ i l. n.each i l (reached_all rows depth i l ∙ le-leb _ _ (last i l));
}

-- the next depth's items can be given theirs, or all have them
pub level_next : (rows : List Row) (depth : ℕ) (next : Option ℕ) (ids : List FileAstId) (counts : Counts) →
    IsNextDepth rows depth next → IsNumbered (is_numbered_before rows depth (length rows)) rows ids counts →
    MatchOption next (AreIds rows ids) (λ deeper. IsNumbered (is_numbered_before rows deeper 0) rows ids counts)
level_next rows depth None ids counts h n = numbered_all rows depth ids counts h n
level_next rows depth (Some deeper) ids counts h n = numbered_next rows depth deeper ids counts h n

-- how much is left behind a depth, of the 2 ^ 64 that there may be
abbrev pub left_behind : Option ℕ → ℕ
left_behind None = 0
left_behind (Some depth) = suc (18446744073709551616 - depth)

pub left_smaller : (rows : List Row) (depth : ℕ) (next level : Option ℕ) → IsNextDepth rows depth next → depth < 18446744073709551616 →
    level ≡ Some depth → left_behind next < left_behind level
left_smaller rows depth None level h l e = rw e (omega arith)
left_smaller rows depth (Some deeper) level h l e = let m : depth < deeper = h.0 in rw e (omega arith)
