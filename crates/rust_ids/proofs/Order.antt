-- The order in which items are counted, and what an id is made from.
use Rattle.std.proofs.Common.{◌≡◌, ◌≢◌, ℕ, suc, ◌<◌, ◌≤◌, Bool, true, false, ◌&&◌, ◌||◌, ◌∙◌, ap, sym, refl, arith, Option, Some, None, IfSome, List, length, min, eqb, ltb}
use Rattle.rust_ids.proofs.Common.{nat_tests, eqb-true, FileAstId, Row, nth_row, id_at, depth_at, holder_of, module_at, module_around, hash_of, key_of, same_key, comes_before, earlier_alike, IsId}
use Rattle.rust_ids.proofs.CountsBelow.{last_below_is, count_below_same}

-- the order on depths and places alone
before : ℕ → ℕ → ℕ → ℕ → Bool
before d j e i = ltb d e || (eqb d e && ltb j i)

pub not_before_itself : (rows : List Row) (i : ℕ) → comes_before rows i i ≡ false
not_before_itself rows i = grind (arith, nat_tests)

pub before_one_way : (rows : List Row) (j i : ℕ) → comes_before rows j i ≡ true → comes_before rows i j ≡ false
before_one_way rows j i h = grind (arith, nat_tests)

pub before_onward : (rows : List Row) (k j i : ℕ) → comes_before rows k j ≡ true → comes_before rows j i ≡ true → comes_before rows k i ≡ true
before_onward rows k j i h g = grind (arith, nat_tests)

pub before_or_after : (rows : List Row) (j i : ℕ) → j ≢ i → comes_before rows j i ≡ false → comes_before rows i j ≡ true
before_or_after rows j i ne h = grind (arith, nat_tests)

pub before_if_shallower : (rows : List Row) (j i : ℕ) → suc (depth_at rows j) ≡ depth_at rows i → comes_before rows j i ≡ true
before_if_shallower rows j i h = let l : depth_at rows j < depth_at rows i = omega arith in grind (arith, nat_tests)

pub depth_if_before : (rows : List Row) (j i : ℕ) → comes_before rows j i ≡ true → depth_at rows j ≤ depth_at rows i
depth_if_before rows j i h = grind (arith, nat_tests)

-- a module's id depends on the ids of items one less deep
module_at_same : (ids new : List FileAstId) (o : Option ℕ) → IfSome o (λ j. id_at new j ≡ id_at ids j) → module_at new o ≡ module_at ids o
module_at_same ids new None h = refl
module_at_same ids new (Some j) h = rw h refl

if_some_more : {P Q : ℕ → Type 0} (o : Option ℕ) → IfSome o P → ((j : ℕ) → P j → Q j) → IfSome o Q
if_some_more None h f = tt
if_some_more (Some j) h f = f j h

pub module_around_same : (rows : List Row) (ids new : List FileAstId) (i : ℕ) →
    ((j : ℕ) → j < i → suc (depth_at rows j) ≡ depth_at rows i → id_at new j ≡ id_at ids j) →
    module_around rows new i ≡ module_around rows ids i
module_around_same rows ids new i h =
    module_at_same ids new (holder_of rows i)
    (if_some_more {P = λ j. (j < i) × (eqb (suc (depth_at rows j)) (depth_at rows i) ≡ true)} {Q = λ j. id_at new j ≡ id_at ids j} (holder_of rows i)
    (last_below_is (λ j. eqb (suc (depth_at rows j)) (depth_at rows i)) i) (λ j p. h j p.0 (eqb-true _ _ p.1)))

-- where the first of two tests decides, the second counts only if it passes
pub and_same : (t x y : Bool) → (t ≡ true → x ≡ y) → (t && x) ≡ (t && y)
and_same true x y h = h refl
and_same false x y h = refl

-- a number depends on the keys of what is counted before
pub number_of_same : (rows : List Row) (ids new : List FileAstId) (i : ℕ) → key_of (id_at new i) ≡ key_of (id_at ids i) →
    ((j : ℕ) → j < length rows → comes_before rows j i ≡ true → key_of (id_at new j) ≡ key_of (id_at ids j)) →
    earlier_alike rows new i ≡ earlier_alike rows ids i
number_of_same rows ids new i here h =
    count_below_same _ _ (length rows)
    (λ j l. and_same (comes_before rows j i) _ _ (λ t. ap (λ k. same_key k (key_of (id_at new i))) (h j l t) ∙ ap (same_key (key_of (id_at ids j))) here))

-- an id stays right where ids before it stay as they are
pub IsId-same : (rows : List Row) (ids new : List FileAstId) (i : ℕ) → id_at new i ≡ id_at ids i →
    ((j : ℕ) → comes_before rows j i ≡ true → id_at new j ≡ id_at ids j) → IsId rows ids i → IsId rows new i
IsId-same rows ids new i here h is = record {
  kind = ap (λ id. id.kind) here ∙ is.kind;
  hash = ap (λ id. id.hash) here ∙ (is.hash ∙ ap (hash_of (nth_row rows i)) (sym (module_around_same rows ids new i (λ j l e. h j (before_if_shallower rows j i e)))));
  number = ap (λ id. id.number) here ∙ (is.number ∙ ap (λ n. min n 4294967295) (sym (number_of_same rows ids new i (ap key_of here) (λ j l t. ap key_of (h j t)))));
}
