-- Places in parts of a text, with carriage returns before line feeds and without them.
use Rattle.std.proofs.Common.{◌≡◌, ◌<◌, ◌≤◌, ◌+◌, ◌-◌, ◌==◌, ◌&&◌, ◌++◌, ℕ, zero, suc, Bool, true, false, List, [], ◌∷◌, length, take, drop, refl, sym, ap, ◌∙◌, subst, arith, if◌then◌else◌, not, append_assoc, length-append, slice_range}
use Rattle.rust_edits.proofs.Common.{slice_index, is_return, with_feeds, place_in, nat_tests, before, below_none, when, and_parts, drop_at, take_at, EndsOwn, Stop, opening, stop}
use Rattle.rust_items.proofs.LineEnds.{place_held, before_return, before_other}
use Rattle.rust_edits.proofs.Typing.Returns.{some_feed}

-- in a text, the place of what stands there in the text without these
abbrev pub place_of : List ℕ → ℕ → ℕ
place_of z zero = zero
place_of [] (suc m) = suc m
place_of (b ∷ z) (suc m) = if is_return b z then suc (place_of z (suc m)) else suc (place_of z m)

by_return : (b m : ℕ) (z : List ℕ) → is_return b z ≡ true → place_of (b ∷ z) (suc m) ≡ suc (place_of z (suc m))
by_return b m z e = rw e refl

by_other : (b m : ℕ) (z : List ℕ) → is_return b z ≡ false → place_of (b ∷ z) (suc m) ≡ suc (place_of z m)
by_other b m z e = rw e refl

counted : (at m : ℕ) (z : List ℕ) → m + before (at + m) at z ≡ place_of z m
counted at zero z = let none = below_none (at + 0) at z (omega arith) in omega arith
counted at (suc m) [] = let none : before (at + suc m) at [] ≡ 0 = refl in omega arith
counted at (suc m) (b ∷ z) =
    when (is_return b z)
    (λ e. let first = before_return (at + suc m) at b z e (omega arith) in
    let rest = counted at (suc m) z in
    let sum : suc m + before (at + suc m) at (b ∷ z) ≡ suc (suc m + before (at + suc m) at z) = omega arith in
    sum ∙ ap suc rest ∙ sym (by_return b m z e))
    (λ e. let first = before_other (at + suc m) at b z e in
    let same : before (at + suc m) (suc at) z ≡ before (suc at + m) (suc at) z = ap (λ k. before k (suc at) z) (omega arith) in
    let rest = counted (suc at) m z in
    let sum : suc m + before (at + suc m) at (b ∷ z) ≡ suc (m + before (suc at + m) (suc at) z) = omega arith in
    sum ∙ ap suc rest ∙ sym (by_other b m z e))

pub place_is : (z : List ℕ) (m : ℕ) → m ≤ length (with_feeds z) → place_in z m ≡ place_of z m
place_is z m l = place_held z m l ∙ ap (λ k. m + before k 0 z) (omega arith) ∙ counted 0 m z

feeds_return : (b : ℕ) (z : List ℕ) → is_return b z ≡ true → with_feeds (b ∷ z) ≡ with_feeds z
feeds_return b z e = rw e refl

feeds_other : (b : ℕ) (z : List ℕ) → is_return b z ≡ false → with_feeds (b ∷ z) ≡ b ∷ with_feeds z
feeds_other b z e = rw e refl

-- ---- two parts

-- A text falls in two where no return at the end of the first counts with the second.
pub record Splits (x y : List ℕ) : Type 0 where
  pub feeds : with_feeds (x ++ y) ≡ with_feeds x ++ with_feeds y
  pub first : (n : ℕ) → n ≤ length (with_feeds x) → place_of (x ++ y) n ≡ place_of x n
  pub second : (n : ℕ) → place_of (x ++ y) (n + length (with_feeds x)) ≡ place_of y n + length x

pub splits_none : (y : List ℕ) → Splits [] y
splits_none y = record {
  feeds = refl;
  first = λ n l. let e : n ≡ 0 = omega arith in ap (place_of y) e ∙ sym (ap (place_of []) e);
  second = λ n. (let e : n + 0 ≡ n = omega arith in ap (place_of y) e) ∙ (let e : place_of y n ≡ place_of y n + 0 = omega arith in e);
}

-- with one byte more in front
module _ (b : ℕ) (x y : List ℕ) (e : is_return b (x ++ y) ≡ is_return b x) (s : Splits x y) where
  first_on : (n : ℕ) → n ≤ length (with_feeds (b ∷ x)) → place_of (b ∷ (x ++ y)) n ≡ place_of (b ∷ x) n
  first_on zero l = refl
  first_on (suc n) l =
      when (is_return b x)
      (λ r. by_return b n (x ++ y) (e ∙ r) ∙ ap suc (s.first (suc n) (subst (λ (z : List ℕ). suc n ≤ length z) (feeds_return b x r) l)) ∙ sym (by_return b n x r))
      (λ r. let short : suc n ≤ suc (length (with_feeds x)) = subst (λ (z : List ℕ). suc n ≤ length z) (feeds_other b x r) l in
      by_other b n (x ++ y) (e ∙ r) ∙ ap suc (s.first n (omega arith)) ∙ sym (by_other b n x r))

  second_on : (n : ℕ) → place_of (b ∷ (x ++ y)) (n + length (with_feeds (b ∷ x))) ≡ place_of y n + suc (length x)
  second_on n =
      let rest = s.second n in
      when (is_return b x)
      (λ r. let some = some_feed x (and_parts (b == 13) (slice_index x 0 == 10) r).1 in
      let m = n + length (with_feeds x) in
      let more : m ≡ suc (m - 1) = omega arith in
      ap (λ (z : List ℕ). place_of (b ∷ (x ++ y)) (n + length z)) (feeds_return b x r) ∙ ap (place_of (b ∷ (x ++ y))) more ∙ by_return b (m - 1) (x ++ y) (e ∙ r)
      ∙ ap (λ k. suc (place_of (x ++ y) k)) (sym more) ∙ (let sum : suc (place_of (x ++ y) m) ≡ place_of y n + suc (length x) = omega arith in sum))
      (λ r. let m = n + length (with_feeds x) in
      let more : n + suc (length (with_feeds x)) ≡ suc m = omega arith in
      ap (λ (z : List ℕ). place_of (b ∷ (x ++ y)) (n + length z)) (feeds_other b x r) ∙ ap (place_of (b ∷ (x ++ y))) more ∙ by_other b m (x ++ y) (e ∙ r)
      ∙ (let sum : suc (place_of (x ++ y) m) ≡ place_of y n + suc (length x) = omega arith in sum))

  feeds_on : with_feeds (b ∷ (x ++ y)) ≡ with_feeds (b ∷ x) ++ with_feeds y
  feeds_on =
      when (is_return b x)
      (λ r. feeds_return b (x ++ y) (e ∙ r) ∙ s.feeds ∙ ap (λ z. z ++ with_feeds y) (sym (feeds_return b x r)))
      (λ r. feeds_other b (x ++ y) (e ∙ r) ∙ ap (λ z. b ∷ z) s.feeds ∙ ap (λ z. z ++ with_feeds y) (sym (feeds_other b x r)))

  splits_on : Splits (b ∷ x) y
  splits_on = record { feeds = feeds_on; first = first_on; second = second_on }

-- ---- behind a byte that is no return

-- its last byte is no return
abbrev is_shut : List ℕ → Bool
is_shut [] = false
is_shut (b ∷ []) = not (b == 13)
is_shut (b ∷ c ∷ z) = is_shut (c ∷ z)

no_return : (b : ℕ) (y : List ℕ) → not (b == 13) ≡ true → is_return b y ≡ false
no_return b y e = when (b == 13) (λ f. absurd (let no = rw f at e in cc)) (λ f. rw f refl)

splits_shut : (x y : List ℕ) → is_shut x ≡ true → Splits x y
splits_shut [] y e = absurd cc
splits_shut (b ∷ []) y e = splits_on b [] y (no_return b y e ∙ sym (no_return b [] e)) (splits_none y)
splits_shut (b ∷ c ∷ z) y e = splits_on b (c ∷ z) y refl (splits_shut (c ∷ z) y e)

none_feed : (b : ℕ) → (b == 13 && false) ≡ false
none_feed b = when (b == 13) (λ e. rw e refl) (λ e. rw e refl)

pub feeds_some : (b : ℕ) (z : List ℕ) → length (with_feeds (b ∷ z)) ≡ 0 → ⊥
feeds_some b [] e = let last = none_feed b in absurd (let no = rw last at e in cc)
feeds_some b (c ∷ z) e = when (is_return b (c ∷ z)) (λ f. feeds_some c z (rw f at e)) (λ f. absurd (let no = rw f at e in cc))

shut_cons : (b : ℕ) (v : List ℕ) → (length v ≡ 0 → ⊥) → is_shut (b ∷ v) ≡ is_shut v
shut_cons b v e = grind (arith, nat_tests)

shut_feeds : (x : List ℕ) → is_shut (with_feeds x) ≡ is_shut x
shut_feeds [] = refl
shut_feeds (b ∷ []) = let last = none_feed b in rw last refl
shut_feeds (b ∷ c ∷ z) =
    when (is_return b (c ∷ z)) (λ f. rw f (shut_feeds (c ∷ z))) (λ f. rw f (shut_cons b (with_feeds (c ∷ z)) (feeds_some c z) ∙ shut_feeds (c ∷ z)))

shut_end : (w : List ℕ) (o : Stop) → is_shut (w ++ stop o ∷ []) ≡ true
shut_end [] opening = refl
shut_end [] _ = refl
shut_end (b ∷ []) o = shut_end [] o
shut_end (b ∷ c ∷ w) o = shut_end (c ∷ w) o

pub own_splits : (x y : List ℕ) → EndsOwn (with_feeds x) → Splits x y
own_splits x y h = splits_shut x y (sym (shut_feeds x) ∙ ap is_shut h.bytes ∙ shut_end h.before h.last)

-- ---- a part between two places

-- a text cut there
record Cut (z : List ℕ) (m : ℕ) : Type 0 where
  front : List ℕ
  back : List ℕ
  all : z ≡ front ++ back
  split : Splits front back
  size : length (with_feeds front) ≡ m

front_return : (b : ℕ) (x y : List ℕ) → 0 < length (with_feeds x) → is_return b (x ++ y) ≡ is_return b x
front_return b [] y some = absurd (omega arith)
front_return b (c ∷ x) y some = refl

front_other : (b : ℕ) (x y : List ℕ) → is_return b (x ++ y) ≡ false → is_return b x ≡ false
front_other b [] y e = none_feed b
front_other b (c ∷ x) y e = e

cut : (z : List ℕ) (m : ℕ) → m ≤ length (with_feeds z) → Cut z m
cut z zero l = record { front = []; back = z; all = refl; split = splits_none z; size = refl }
cut [] (suc m) l = absurd (omega arith)
cut (b ∷ z) (suc m) l =
    when (is_return b z)
    (λ r. let c = cut z (suc m) (subst (λ (w : List ℕ). suc m ≤ length w) (feeds_return b z r) l) in
    let same = front_return b c.front c.back (let some = c.size in omega arith) in
    let own : is_return b c.front ≡ true = sym same ∙ ap (is_return b) (sym c.all) ∙ r in
    record { front = b ∷ c.front; back = c.back; all = ap (λ w. b ∷ w) c.all; split = splits_on b c.front c.back same c.split; size = ap length (feeds_return b c.front own) ∙ c.size })
    (λ r. let short : suc m ≤ suc (length (with_feeds z)) = subst (λ (w : List ℕ). suc m ≤ length w) (feeds_other b z r) l in
    let c = cut z m (omega arith) in
    let whole : is_return b (c.front ++ c.back) ≡ false = ap (is_return b) (sym c.all) ∙ r in
    let own = front_other b c.front c.back whole in
    record { front = b ∷ c.front; back = c.back; all = ap (λ w. b ∷ w) c.all; split = splits_on b c.front c.back (whole ∙ sym own) c.split; size = ap length (feeds_other b c.front own) ∙ ap suc c.size })

module _ (z : List ℕ) (s k : ℕ) (within : s + k ≤ length (with_feeds z)) where
  abbrev pub part : List ℕ
  part = slice_range z (place_in z s) (place_in z (s + k))

  abbrev far : Cut z (s + k)
  far = cut z (s + k) within

  near_fits : s ≤ length (with_feeds (cut z (s + k) within).front)
  near_fits = let size = (cut z (s + k) within).size in omega arith

  abbrev near : Cut (cut z (s + k) within).front s
  near = cut (cut z (s + k) within).front s near_fits

  abbrev q : List ℕ
  q = near.front

  abbrev v : List ℕ
  v = near.back

  parts : z ≡ (q ++ v) ++ far.back
  parts = far.all ∙ ap (λ w. w ++ far.back) near.all

  -- places up to the end of the part, and those in it
  place_up : (n : ℕ) → n ≤ s + k → place_of z n ≡ place_of (q ++ v) n
  place_up n l = let size = far.size in ap (λ w. place_of w n) far.all ∙ far.split.first n (omega arith) ∙ ap (λ w. place_of w n) near.all

  place_on : (n : ℕ) → n ≤ k → place_in z (n + s) ≡ place_of v n + length q
  place_on n l = place_is z (n + s) (omega arith) ∙ place_up (n + s) (omega arith) ∙ ap (λ m. place_of (q ++ v) (n + m)) (sym near.size) ∙ near.split.second n

  starts_at : place_in z s ≡ length q
  starts_at = (let e : s ≡ 0 + s = omega arith in ap (place_in z) e) ∙ place_on 0 (omega arith) ∙ (let none : 0 + length q ≡ length q = omega arith in none)

  ends_at : place_in z (s + k) ≡ length (q ++ v)
  ends_at =
      let none : s + k ≡ 0 + length (with_feeds far.front) = (let size = far.size in omega arith) in
      place_is z (s + k) within ∙ ap (place_of z) none ∙ ap (λ w. place_of w (0 + length (with_feeds far.front))) far.all ∙ far.split.second 0
      ∙ (let none : 0 + length far.front ≡ length far.front = omega arith in none) ∙ ap length near.all

  part_is : part ≡ v
  part_is =
      let sum = length-append q v in
      let many : length (q ++ v) - length q ≡ length v = omega arith in
      rw (starts_at, ends_at, many)
      (ap (λ w. take (length v) (drop (length q) w)) (parts ∙ append_assoc q v far.back) ∙ ap (take (length v)) (drop_at q (v ++ far.back) (length q) refl) ∙ take_at v far.back (length v) refl)

  feeds_size : length (with_feeds v) ≡ k
  feeds_size =
      let all = far.size in
      let own = near.size in
      let split = ap length near.split.feeds ∙ length-append (with_feeds q) (with_feeds v) in
      let same : length (with_feeds far.front) ≡ length (with_feeds (q ++ v)) = ap (λ w. length (with_feeds w)) near.all in
      omega arith

  pub part_feeds : with_feeds part ≡ take k (drop s (with_feeds z))
  part_feeds =
      let whole : with_feeds z ≡ with_feeds q ++ (with_feeds v ++ with_feeds far.back) =
      ap with_feeds far.all ∙ far.split.feeds ∙ ap (λ w. w ++ with_feeds far.back) (ap with_feeds near.all ∙ near.split.feeds) ∙ append_assoc (with_feeds q) (with_feeds v) (with_feeds far.back) in
      ap with_feeds part_is ∙ sym (ap (λ w. take k (drop s w)) whole ∙ ap (take k) (drop_at (with_feeds q) (with_feeds v ++ with_feeds far.back) s near.size) ∙ take_at (with_feeds v) (with_feeds far.back) k feeds_size)

  pub part_place : (n : ℕ) → n ≤ k → place_in z (n + s) ≡ place_in part n + place_in z s
  part_place n l =
      let size = feeds_size in
      let there = place_on n l in
      let own : place_in part n ≡ place_of v n = ap (λ w. place_in w n) part_is ∙ place_is v n (omega arith) in
      let start = starts_at in
      omega arith
