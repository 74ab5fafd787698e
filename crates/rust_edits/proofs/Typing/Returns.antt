-- Returns of a text with braces in it, and the places that they move.
use Rattle.std.proofs.Common.{◌≡◌, ◌<◌, ◌≤◌, ◌+◌, ◌==◌, ℕ, suc, true, false, List, [], ◌∷◌, ◌++◌, length, refl, ap, ◌∙◌, arith, length-append}
use Rattle.rust_edits.proofs.Common.{nat_le, nat_lt, slice_index, is_return, with_feeds, returns_from, place_in, with_body, shifted_by, close_at, nat_tests, when, and_parts, le-leb, lt-ltb, returns_count, prefix_short, below_none, before, lt-leb}

lt_by : (m n d : ℕ) → nat_lt (m + d) (n + d) ≡ nat_lt m n
lt_by m n d = grind (arith, nat_tests)

-- ---- a text that falls in two at a byte that ends no line

module _ (c : ℕ) (other : (c == 10) ≡ false) (bare : (c == 13) ≡ false) where
  return_same : (b : ℕ) (z y : List ℕ) → is_return b (z ++ c ∷ y) ≡ is_return b z
  return_same b [] y = rw other refl
  return_same b (d ∷ z) y = refl

  feeds_split : (z y : List ℕ) → with_feeds (z ++ c ∷ y) ≡ with_feeds z ++ c ∷ with_feeds y
  feeds_split [] y = rw bare refl
  feeds_split (b ∷ z) y =
      when (is_return b z) (λ e. rw (return_same b z y, e) (feeds_split z y)) (λ e. rw (return_same b z y, e) (ap (λ l. b ∷ l) (feeds_split z y)))

  -- of returns before a place in the first part those of the first part count
  before_low : (n at : ℕ) (z y : List ℕ) → n ≤ at + length (with_feeds z) → before n at (z ++ c ∷ y) ≡ before n at z
  before_low n at [] y l = rw bare (below_none n (suc at) y (omega arith))
  before_low n at (b ∷ z) y l =
      when (is_return b z)
      (λ e. let k = rw e at l in let rest = before_low n at z y k in rw (return_same b z y, e) (when (nat_lt at n) (λ f. rw f (ap (λ i. 1 + i) rest)) (λ f. rw f refl)))
      (λ e. let k : n ≤ at + length (b ∷ with_feeds z) = rw e at l in rw (return_same b z y, e) (before_low n (suc at) z y (omega arith)))

  -- and of those before a place in the second all of the first
  before_high : (n at : ℕ) (z y : List ℕ) → at + length (with_feeds z) < n → before n at (z ++ c ∷ y) ≡ length (returns_from at z) + before n (suc (at + length (with_feeds z))) y
  before_high n at [] y l =
      let none : before n (suc at) y ≡ before n (suc (at + length (with_feeds []))) y = ap (λ k. before n k y) (omega arith) in
      rw bare (omega (arith, none))
  before_high n at (b ∷ z) y l =
      when (is_return b z)
      (λ e. let k : at + length (with_feeds z) < n = rw e at l in
      let here : nat_lt at n ≡ true = lt-ltb at n (omega arith) in
      let rest = before_high n at z y k in
      rw (return_same b z y, e, here) (omega (arith, rest)))
      (λ e. let k : at + length (b ∷ with_feeds z) < n = rw e at l in
      let rest = before_high n (suc at) z y (omega arith) in
      let next : before n (suc (suc at + length (with_feeds z))) y ≡ before n (suc (at + length (b ∷ with_feeds z))) y = ap (λ i. before n i y) (omega arith) in
      rw (return_same b z y, e) (omega (arith, rest, next)))

before_moved : (d n at : ℕ) (z : List ℕ) → before (n + d) (at + d) z ≡ before n at z
before_moved d n at [] = refl
before_moved d n at (b ∷ z) =
    when (is_return b z)
    (λ e. rw (e, lt_by at n d) (when (nat_lt at n) (λ f. rw f (ap (λ i. 1 + i) (before_moved d n at z))) (λ f. rw f refl)))
    (λ e. let next : suc (at + d) ≡ suc at + d = omega arith in rw e (ap (λ i. before (n + d) i z) next ∙ before_moved d n (suc at) z))

-- ---- a text with braces in it

pub feeds_body : (q m s : List ℕ) → with_feeds (with_body q m s) ≡ with_body (with_feeds q) (with_feeds m) (with_feeds s)
feeds_body q m s = feeds_split 123 refl refl q (m ++ 125 ∷ s) ∙ ap (λ l. with_feeds q ++ 123 ∷ l) (feeds_split 125 refl refl m s)

pub body_length : (q m s : List ℕ) → length (with_body q m s) ≡ length q + suc (length m + suc (length s))
body_length q m s = length-append q (123 ∷ (m ++ 125 ∷ s)) ∙ ap (λ n. length q + suc n) (length-append m (125 ∷ s))

feeds_length : (q m s : List ℕ) → length (with_feeds (with_body q m s)) ≡ length (with_feeds q) + suc (length (with_feeds m) + suc (length (with_feeds s)))
feeds_length q m s = ap length (feeds_body q m s) ∙ body_length (with_feeds q) (with_feeds m) (with_feeds s)

place_is : (text : List ℕ) (n : ℕ) → n ≤ length (with_feeds text) → place_in text n ≡ n + before n 0 text
unfolding place_in
place_is text n l = rw (le-leb n (length (with_feeds text)) l) refl

-- where a place in front of the braces is
place_low : (q m s : List ℕ) (n : ℕ) → n ≤ length (with_feeds q) → place_in (with_body q m s) n ≡ n + before n 0 q
place_low q m s n l =
    let long = feeds_length q m s in
    place_is (with_body q m s) n (omega arith) ∙ ap (λ k. n + k) (before_low 123 refl refl n 0 q (m ++ 125 ∷ s) (omega arith))

-- and one behind them
pub place_high : (q m s : List ℕ) (c : ℕ) → 0 < c → c ≤ suc (length (with_feeds s)) → place_in (with_body q m s) (c + close_at (with_feeds q) (with_feeds m)) ≡ close_at q m + (c + before c 1 s)
place_high q m s c some l =
    let long = feeds_length q m s in
    let n = c + close_at (with_feeds q) (with_feeds m) in
    let first = before_high 123 refl refl n 0 q (m ++ 125 ∷ s) (omega arith) in
    let second = before_high 125 refl refl n (suc (0 + length (with_feeds q))) m s (omega arith) in
    let here : suc (suc (0 + length (with_feeds q)) + length (with_feeds m)) ≡ 1 + close_at (with_feeds q) (with_feeds m) = omega arith in
    let third : before n (suc (suc (0 + length (with_feeds q)) + length (with_feeds m))) s ≡ before c 1 s =
    ap (λ i. before n i s) here ∙ before_moved (close_at (with_feeds q) (with_feeds m)) c 1 s in
    let all = returns_count 0 q in
    let inner = returns_count (suc (0 + length (with_feeds q))) m in
    place_is (with_body q m s) n (omega arith) ∙ omega (arith, first, second, third, all, inner)

-- ---- places that move

-- a place up to the `{` stays
pub place_stays : (q m m' s : List ℕ) (n : ℕ) → n ≤ length (with_feeds q) → place_in (with_body q m' s) n ≡ shifted_by q m m' (place_in (with_body q m s) n)
place_stays q m m' s n l =
    let few = prefix_short (λ i. nat_lt i n) (returns_from 0 q) in
    let all = returns_count 0 q in
    let k = n + before n 0 q in
    let here : nat_le k (length q) ≡ true = le-leb k (length q) (omega arith) in
    rw (place_low q m s n l, place_low q m' s n l, here) refl

-- and one behind the braces moves
pub place_moves : (q m m' s : List ℕ) (c : ℕ) → 0 < c → c ≤ suc (length (with_feeds s))
    → place_in (with_body q m' s) (c + close_at (with_feeds q) (with_feeds m')) ≡ shifted_by q m m' (place_in (with_body q m s) (c + close_at (with_feeds q) (with_feeds m)))
place_moves q m m' s c some l =
    let k = close_at q m + (c + before c 1 s) in
    let there : nat_le k (length q) ≡ false = lt-leb k (length q) (omega arith) in
    rw (place_high q m s c some l, place_high q m' s c some l, there) (omega arith)

-- ---- where the braces stand

pub some_feed : (z : List ℕ) → (slice_index z 0 == 10) ≡ true → 0 < length (with_feeds z)
some_feed [] e = absurd cc
some_feed (b ∷ z) e = let other : (b == 13) ≡ false = grind (arith, nat_tests) in rw other (omega arith)

-- all returns of a text stand before its end
before_all : (at : ℕ) (z : List ℕ) → before (at + length (with_feeds z)) at z ≡ length (returns_from at z)
before_all at [] = refl
before_all at (b ∷ z) =
    when (is_return b z)
    (λ e. let some = some_feed z (and_parts (b == 13) (slice_index z 0 == 10) e).1 in
    let here : nat_lt at (at + length (with_feeds z)) ≡ true = lt-ltb at (at + length (with_feeds z)) (omega arith) in
    let rest = before_all at z in
    rw (e, here) (omega (arith, rest)))
    (λ e. let next : at + length (b ∷ with_feeds z) ≡ suc at + length (with_feeds z) = omega arith in
    rw e (ap (λ n. before n (suc at) z) next ∙ before_all (suc at) z))

-- the place of the `{`
pub place_open : (q m s : List ℕ) → place_in (with_body q m s) (length (with_feeds q)) ≡ length q
place_open q m s =
    let end : length (with_feeds q) ≡ 0 + length (with_feeds q) = omega arith in
    let all : before (length (with_feeds q)) 0 q ≡ length (returns_from 0 q) = ap (λ n. before n 0 q) end ∙ before_all 0 q in
    let count = returns_count 0 q in
    place_low q m s (length (with_feeds q)) (omega arith) ∙ omega (arith, all, count)
