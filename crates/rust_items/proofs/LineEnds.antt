-- Texts with line feeds alone.
use Rattle.std.proofs.Common.{◌≡◌, ◌≢◌, ◌<◌, ◌≤◌, ◌+◌, ◌-◌, ◌==◌, ◌++◌, ℕ, zero, suc, Bool, true, false, List, [], ◌∷◌, map, length, get_or, take, drop, if◌then◌else◌, Option, Some, None, refl, sym, ap, ◌∙◌, arith, append_assoc, append-nil, length-append, lit<, ⊎_elim, nat_le, nat_lt, option_map, slice_range, subst}
use Rattle.rust_items.proofs.Common.{prefix_len, list_any, IsPartitionPoint, split_parts, ne_eqb, cases_Bool, and_parts, eqb-true, nat_tests, ItemViews, TextRange, ItemPlace, is_return, with_feeds, returns_from, place_by, place_in, moved_range, Telling, name_of, IsBodyIn, IsNameIn, IsPlace, ArePlaces, nothing, placed}
use Rattle.std.specs.Str.Pattern.{FindsChar}
use Rattle.std.proofs.Math.Nat.{eq-or-lt_of_le}
use Rattle.memchr.specs.Find.{IsFirstByte, is_byte}
use Rattle.std.proofs.lemmas.Grind.{get_or_default_zero}
use Rattle.std.proofs.lemmas.List.Folds.{list_any_at, list_any_none}

-- ---- where no return stands

pub feeds_behind : (front rest : List ℕ) → ((i : ℕ) → i < length front → get_or front i 0 ≢ 13) → with_feeds (front ++ rest) ≡ front ++ with_feeds rest
feeds_behind [] rest h = refl
feeds_behind (b ∷ z) rest h =
    let other : (b == 13) ≡ false = ne_eqb b 13 (h 0 (omega arith)) in
    rw other (ap (λ l. b ∷ l) (feeds_behind z rest (λ i l. h (suc i) (omega arith))))

pub returns_behind : (at : ℕ) (front rest : List ℕ) → ((i : ℕ) → i < length front → get_or front i 0 ≢ 13) → returns_from at (front ++ rest) ≡ returns_from (at + length front) rest
returns_behind at [] rest h = ap (λ n. returns_from n rest) (omega arith)
returns_behind at (b ∷ z) rest h =
    let other : (b == 13) ≡ false = ne_eqb b 13 (h 0 (omega arith)) in
    rw other (returns_behind (suc at) z rest (λ i l. h (suc i) (omega arith)) ∙ ap (λ n. returns_from n rest) (omega arith))

pub feeds_same : (z : List ℕ) → ((i : ℕ) → i < length z → get_or z i 0 ≢ 13) → with_feeds z ≡ z
feeds_same z h = rw append-nil at (feeds_behind z [] h)

pub returns_none : (at : ℕ) (z : List ℕ) → ((i : ℕ) → i < length z → get_or z i 0 ≢ 13) → returns_from at z ≡ []
returns_none at z h = rw append-nil at (returns_behind at z [] h)

-- behind one more return
pub feeds_step : (done front behind all : List ℕ) → ((i : ℕ) → i < length front → get_or front i 0 ≢ 13) → done ++ with_feeds (front ++ 13 ∷ behind) ≡ all
    → ((done ++ front) ++ (if is_return 13 behind then [] else 13 ∷ [])) ++ with_feeds behind ≡ all
feeds_step done front behind all h e =
    append_assoc (done ++ front) (if is_return 13 behind then [] else 13 ∷ []) (with_feeds behind)
    ∙ append_assoc done front ((if is_return 13 behind then [] else 13 ∷ []) ++ with_feeds behind)
    ∙ ap (λ l. done ++ (front ++ l)) (sym (first_feed (is_return 13 behind) (with_feeds behind)))
    ∙ ap (λ l. done ++ l) (sym (feeds_behind front (13 ∷ behind) h))
    ∙ e
  where
    first_feed : (t : Bool) (z : List ℕ) → (if t then z else 13 ∷ z) ≡ (if t then [] else 13 ∷ []) ++ z
    first_feed true z = refl
    first_feed false z = refl

pub returns_step : (done front behind all : List ℕ) (at next : ℕ) → ((i : ℕ) → i < length front → get_or front i 0 ≢ 13)
    → next ≡ (at + length front) + length {A = ℕ} (if is_return 13 behind then [] else 13 ∷ []) → done ++ returns_from at (front ++ 13 ∷ behind) ≡ all
    → (done ++ (if is_return 13 behind then (at + length front) ∷ [] else [])) ++ returns_from next behind ≡ all
returns_step done front behind all at next h n e =
    append_assoc done (if is_return 13 behind then (at + length front) ∷ [] else []) (returns_from next behind)
    ∙ ap (λ l. done ++ l) (first_return (is_return 13 behind) n ∙ sym (returns_behind at front (13 ∷ behind) h))
    ∙ e
  where
    first_return : (t : Bool) → next ≡ (at + length front) + length {A = ℕ} (if t then [] else 13 ∷ [])
        → (if t then (at + length front) ∷ [] else []) ++ returns_from next behind ≡ (if t then (at + length front) ∷ returns_from (at + length front) behind else returns_from (suc (at + length front)) behind)
    first_return true m = ap (λ k. (at + length front) ∷ returns_from k behind) (omega arith)
    first_return false m = ap (λ k. returns_from k behind) (omega arith)

-- the same at what a turn of a loop adds
pub feeds_turn : (left front behind done mid next all : List ℕ) → left ≡ front ++ 13 ∷ behind → ((i : ℕ) → i < length front → get_or front i 0 ≢ 13) → mid ≡ done ++ front → next ≡ mid ++ (if is_return 13 behind then [] else 13 ∷ [])
    → done ++ with_feeds left ≡ all → next ++ with_feeds behind ≡ all
feeds_turn left front behind done mid next all s h m n e =
    ap (λ l. l ++ with_feeds behind) (n ∙ ap (λ l. l ++ (if is_return 13 behind then [] else 13 ∷ [])) m)
    ∙ feeds_step done front behind all h (ap (λ l. done ++ with_feeds l) (sym s) ∙ e)

pub returns_turn : (left front behind done mid next returns more all : List ℕ) → left ≡ front ++ 13 ∷ behind → ((i : ℕ) → i < length front → get_or front i 0 ≢ 13) → mid ≡ done ++ front
    → next ≡ mid ++ (if is_return 13 behind then [] else 13 ∷ []) → more ≡ returns ++ (if is_return 13 behind then length mid ∷ [] else [])
    → returns ++ returns_from (length done) left ≡ all → more ++ returns_from (length next) behind ≡ all
returns_turn left front behind done mid next returns more all s h m n r e =
    let kept : List ℕ = if is_return 13 behind then [] else 13 ∷ [] in
    let at : length mid ≡ length done + length front = ap length m ∙ length-append done front in
    let past : length next ≡ (length done + length front) + length kept = ap length n ∙ length-append mid kept ∙ ap (λ k. k + length kept) at in
    ap (λ l. l ++ returns_from (length next) behind) (r ∙ ap (λ k. returns ++ (if is_return 13 behind then k ∷ [] else [])) at)
    ∙ returns_step returns front behind all (length done) (length next) h past (ap (λ l. returns ++ returns_from (length done) l) (sym s) ∙ e)

-- where a text without returns is found
pub no_return : (text : List ℕ) → FindsChar 13 text None → (i : ℕ) → i < length text → get_or text i 0 ≢ 13
no_return text h = split_parts 13 text None h (lit< tt)

-- where the search for the byte of one finds none
pub none_found : (text bytes : List ℕ) → bytes ≡ text → IsFirstByte (is_byte 13) bytes None → (i : ℕ) → i < length text → get_or text i 0 ≢ 13
none_found text bytes same h i lt e = h i (omega arith) (omega (arith, lt, ap length same)) (rw (same, e) refl)

-- and where it finds one
pub one_found : (text bytes : List ℕ) (k : ℕ) → bytes ≡ text → IsFirstByte (is_byte 13) bytes (Some k) → list_any (λ b. b == 13) text ≡ true
one_found text bytes k same h = list_any_at (λ b. b == 13) text k 0 (omega (arith, h.0.high, ap length same)) (rw (sym same) h.1)

pub none_stands : (text : List ℕ) → ((i : ℕ) → i < length text → get_or text i 0 ≢ 13) → list_any (λ b. b == 13) text ≡ false
none_stands text h = list_any_none (λ b. b == 13) text (λ i d lt. subst (λ n. (n == 13) ≡ false) (sym (get_or_default_zero text i d lt)) (ne_eqb (get_or text i 0) 13 (h i lt)))

-- behind the last return
pub ended : (text left feeds returns : List ℕ) (at : ℕ) → ((i : ℕ) → i < length left → get_or left i 0 ≢ 13) → feeds ++ with_feeds left ≡ with_feeds text → returns ++ returns_from at left ≡ returns_from 0 text
    → (feeds ++ left ≡ with_feeds text) × (returns ≡ returns_from 0 text)
ended text left feeds returns at h e f =
    (ap (λ l. feeds ++ l) (sym (feeds_same left h)) ∙ e, sym (append-nil returns) ∙ ap (λ l. returns ++ l) (sym (returns_none at left h)) ∙ f)

-- ---- how many, and in which order

pub returns_count : (at : ℕ) (z : List ℕ) → length (with_feeds z) + length (returns_from at z) ≡ length z
returns_count at [] = refl
returns_count at (b ∷ z) =
    ⊎_elim (λ e. rw e (let r = returns_count at z in omega arith)) (λ e. rw e (let r = returns_count (suc at) z in omega arith)) (cases_Bool (is_return b z))

above_if : (t : Bool) (at : ℕ) (xs ys : List ℕ) → ((j d : ℕ) → j < length xs → at ≤ get_or xs j d) → ((j d : ℕ) → j < length ys → at ≤ get_or ys j d)
    → (j d : ℕ) → j < length (if t then at ∷ xs else ys) → at ≤ get_or (if t then at ∷ xs else ys) j d
above_if true at xs ys f g zero d l = omega arith
above_if true at xs ys f g (suc j) d l = f j d (omega arith)
above_if false at xs ys f g j d l = g j d l

returns_above : (at : ℕ) (z : List ℕ) (j d : ℕ) → j < length (returns_from at z) → at ≤ get_or (returns_from at z) j d
returns_above at [] j d l = absurd (omega arith)
returns_above at (b ∷ z) j d l =
    above_if (is_return b z) at (returns_from at z) (returns_from (suc at) z) (returns_above at z) (λ i e k. let r : suc at ≤ get_or (returns_from (suc at) z) i e = returns_above (suc at) z i e k in omega arith) j d l

rise_if : (t : Bool) (at : ℕ) (xs ys : List ℕ) → ((i j d : ℕ) → i ≤ j → j < length xs → get_or xs i d ≤ get_or xs j d) → ((j d : ℕ) → j < length xs → at ≤ get_or xs j d)
    → ((i j d : ℕ) → i ≤ j → j < length ys → get_or ys i d ≤ get_or ys j d)
    → (i j d : ℕ) → i ≤ j → j < length (if t then at ∷ xs else ys) → get_or (if t then at ∷ xs else ys) i d ≤ get_or (if t then at ∷ xs else ys) j d
rise_if true at xs ys r a s zero zero d h l = omega arith
rise_if true at xs ys r a s zero (suc j) d h l = a j d (omega arith)
rise_if true at xs ys r a s (suc i) zero d h l = absurd (omega arith)
rise_if true at xs ys r a s (suc i) (suc j) d h l = r i j d (omega arith) (omega arith)
rise_if false at xs ys r a s i j d h l = s i j d h l

pub returns_rise : (at : ℕ) (z : List ℕ) (i j d : ℕ) → i ≤ j → j < length (returns_from at z) → get_or (returns_from at z) i d ≤ get_or (returns_from at z) j d
returns_rise at [] i j d h l = absurd (omega arith)
returns_rise at (b ∷ z) i j d h l = rise_if (is_return b z) at (returns_from at z) (returns_from (suc at) z) (returns_rise at z) (returns_above at z) (returns_rise (suc at) z) i j d h l

-- ---- places

le_true : (m n : ℕ) → m ≤ n → nat_le m n ≡ true
le_true m n h = grind (arith, nat_tests)

-- where a test ends to hold
pub prefix_at : (p : ℕ → Bool) (xs : List ℕ) (i : ℕ) → i ≤ length xs → ((k d : ℕ) → k < i → p (get_or xs k d) ≡ true) → ((k d : ℕ) → i ≤ k → k < length xs → p (get_or xs k d) ≡ false) → prefix_len p xs ≡ i
prefix_at p [] i l f g = omega arith
prefix_at p (x ∷ xs) zero l f g = rw (g 0 0 (omega arith) (omega arith)) refl
prefix_at p (x ∷ xs) (suc i) l f g =
    let rest : prefix_len p xs ≡ i = prefix_at p xs i (omega arith) (λ k d h. f (suc k) d (omega arith)) (λ k d h m. g (suc k) d (omega arith) (omega arith)) in
    let first : p x ≡ true = f 0 0 (omega arith) in
    rw first (omega arith)

pub prefix_short : (p : ℕ → Bool) (xs : List ℕ) → prefix_len p xs ≤ length xs
prefix_short p [] = omega arith
prefix_short p (x ∷ xs) = let rest = prefix_short p xs in ⊎_elim (λ e. rw e (omega arith)) (λ e. rw e (omega arith)) (cases_Bool (p x))

below_more : (x m n : ℕ) → m ≤ n → nat_lt x m ≡ true → nat_lt x n ≡ true
below_more x m n h e = grind (arith, nat_tests)

prefix_grows : (m n : ℕ) (xs : List ℕ) → m ≤ n → prefix_len (λ q. nat_lt q m) xs ≤ prefix_len (λ q. nat_lt q n) xs
prefix_grows m n [] h = omega arith
prefix_grows m n (x ∷ xs) h =
    let rest = prefix_grows m n xs h in
    ⊎_elim (λ (e : nat_lt x m ≡ true). rw (e, below_more x m n h e) (omega arith)) (λ (e : nat_lt x m ≡ false). rw e (omega arith)) (cases_Bool (nat_lt x m))

-- the place that a search by halves finds
pub point_place : (len : ℕ) (returns xs : List ℕ) (at i : ℕ) → xs ≡ returns → at ≤ len → i ≤ length xs → IsPartitionPoint (λ q. nat_lt q at ≡ true) (λ q. nat_lt q at ≡ false) xs i
    → at + i ≡ place_by len returns at
point_place len returns xs at i same low bound point =
    let within : nat_le at len ≡ true = le_true at len low in
    let here : prefix_len (λ q. nat_lt q at) xs ≡ i = prefix_at (λ q. nat_lt q at) xs i bound (λ k d l. point.0 k d (omega arith) l) (λ k d l m. point.1 k d l m) in
    rw within (ap (λ n. at + n) (sym here ∙ ap (prefix_len (λ q. nat_lt q at)) same))

pub place_rises : (len : ℕ) (returns : List ℕ) (m n : ℕ) → m < n → n ≤ len → place_by len returns m < place_by len returns n
place_rises len returns m n l h =
    let more : prefix_len (λ q. nat_lt q m) returns ≤ prefix_len (λ q. nat_lt q n) returns = prefix_grows m n returns (omega arith) in
    rw (le_true m len (omega arith), le_true n len h) (omega arith)

pub place_within : (text : List ℕ) → place_in text (length (with_feeds text)) ≤ length text
unfolding place_in
place_within text =
    let len = length (with_feeds text) in
    let few = prefix_short (λ q. nat_lt q len) (returns_from 0 text) in
    let count = returns_count 0 text in
    rw (le_true len len (omega arith)) (omega arith)

pub place_rises_in : (text : List ℕ) (m n : ℕ) → m < n → n ≤ length (with_feeds text) → place_in text m < place_in text n
unfolding place_in
place_rises_in text m n l h = place_rises (length (with_feeds text)) (returns_from 0 text) m n l h

-- ---- what stands in a text

pub below_none : (m at : ℕ) (z : List ℕ) → m ≤ at → prefix_len (λ q. nat_lt q m) (returns_from at z) ≡ 0
below_none m at z h =
    prefix_at (λ q. nat_lt q m) (returns_from at z) 0 (omega arith) (λ k d l. absurd (omega arith))
    (λ k d l b. let above : at ≤ get_or (returns_from at z) k d = returns_above at z k d b in not_below (get_or (returns_from at z) k d) m (omega arith))
  where
    not_below : (x m : ℕ) → m ≤ x → nat_lt x m ≡ false
    not_below x m h = grind (arith, nat_tests)

-- so many returns stand before a place
abbrev pub before : ℕ → ℕ → List ℕ → ℕ
before place at z = prefix_len (λ q. nat_lt q place) (returns_from at z)

-- a part without a line feed stands behind the returns before it, and none is in it
abbrev IsHeld : ℕ → List ℕ → ℕ → List ℕ → Type 0
IsHeld at z n mid = (take (length mid) (drop (n + before (at + n) at z) z) ≡ mid) × (before (at + (n + length mid)) at z ≡ before (at + n) at z)

tail_same : (b c : ℕ) (x y : List ℕ) → b ∷ x ≡ c ∷ y → x ≡ y
tail_same b c x y e = cc

head_same : (b c : ℕ) (x y : List ℕ) → b ∷ x ≡ c ∷ y → b ≡ c
head_same b c x y e = cc

feed_first : (z rest : List ℕ) (b c : ℕ) → is_return b z ≡ true → with_feeds z ≡ c ∷ rest → (c == 10) ≡ true
feed_first [] rest b c r e = let none : false ≡ true = (and_parts (b == 13) false r).1 in absurd cc
feed_first (d ∷ z) rest b c r e =
    let feed : (d == 10) ≡ true = (and_parts (b == 13) (d == 10) r).1 in
    let ten : d ≡ 10 = eqb-true d 10 feed in
    let other : is_return d z ≡ false = rw ten refl in
    let same : d ∷ with_feeds z ≡ c ∷ rest = rw other at e in
    let first : d ≡ c = head_same d c _ _ same in
    rw (← first) feed

pub before_return : (place at b : ℕ) (z : List ℕ) → is_return b z ≡ true → at < place → before place at (b ∷ z) ≡ suc (before place at z)
before_return place at b z r l = let below : nat_lt at place ≡ true = grind (arith, nat_tests) in rw r (rw below (omega arith))

pub before_other : (place at b : ℕ) (z : List ℕ) → is_return b z ≡ false → before place at (b ∷ z) ≡ before place (suc at) z
before_other place at b z r = rw r refl

held_return : (at b n : ℕ) (z mid : List ℕ) → is_return b z ≡ true → 0 < n → IsHeld at z n mid → IsHeld at (b ∷ z) n mid
held_return at b n z mid r l i =
    let first = before_return (at + n) at b z r (omega arith) in
    let last = before_return (at + (n + length mid)) at b z r (omega arith) in
    let more : n + before (at + n) at (b ∷ z) ≡ suc (n + before (at + n) at z) = omega arith in
    (ap (λ m. take (length mid) (drop m (b ∷ z))) more ∙ i.0, last ∙ ap suc i.1 ∙ sym first)

held_other : (at b n : ℕ) (z mid : List ℕ) → is_return b z ≡ false → IsHeld (suc at) z n mid → IsHeld at (b ∷ z) (suc n) mid
held_other at b n z mid r i =
    let first : before (at + suc n) at (b ∷ z) ≡ before (suc at + n) (suc at) z = before_other _ at b z r ∙ ap (λ p. before p (suc at) z) (omega arith) in
    let last : before (at + (suc n + length mid)) at (b ∷ z) ≡ before (suc at + (n + length mid)) (suc at) z = before_other _ at b z r ∙ ap (λ p. before p (suc at) z) (omega arith) in
    let more : suc n + before (at + suc n) at (b ∷ z) ≡ suc (n + before (suc at + n) (suc at) z) = omega arith in
    (ap (λ m. take (length mid) (drop m (b ∷ z))) more ∙ i.0, last ∙ i.1 ∙ sym first)

held_first : (at b c : ℕ) (z mid : List ℕ) → is_return b z ≡ false → b ≡ c → IsHeld (suc at) z 0 mid → IsHeld at (b ∷ z) 0 (c ∷ mid)
held_first at b c z mid r e i =
    let none : before (at + 0) at (b ∷ z) ≡ 0 = before_other _ at b z r ∙ below_none (at + 0) (suc at) z (omega arith) in
    let next : before (suc at + 0) (suc at) z ≡ 0 = below_none (suc at + 0) (suc at) z (omega arith) in
    let rest : take (length mid) z ≡ mid = rw next at i.0 in
    let last : before (at + (0 + suc (length mid))) at (b ∷ z) ≡ before (suc at + (0 + length mid)) (suc at) z = before_other _ at b z r ∙ ap (λ p. before p (suc at) z) (omega arith) in
    (ap (λ m. take (suc (length mid)) (drop (0 + m) (b ∷ z))) none ∙ ap (λ x. x ∷ take (length mid) z) e ∙ ap (λ l. c ∷ l) rest, last ∙ i.1 ∙ next ∙ sym none)

held_part : (at : ℕ) (z front mid back : List ℕ) → with_feeds z ≡ front ++ (mid ++ back) → list_any (λ c. c == 10) mid ≡ false → IsHeld at z (length front) mid
held_part at [] [] [] back e h = (refl, refl)
held_part at [] _ _ back e h = absurd cc
held_part at (b ∷ z) [] [] back e h = (refl, refl)
held_part at (b ∷ z) [] (m ∷ mid) back e h =
    ⊎_elim (λ (r : is_return b z ≡ true). let ten = feed_first z (mid ++ back) b m r (rw r at e) in let wrong : true ≡ false = rw ten at h in absurd cc)
    (λ (r : is_return b z ≡ false). let same : b ∷ with_feeds z ≡ m ∷ (mid ++ back) = rw r at e in
    held_first at b m z mid r (head_same b m _ _ same) (held_part (suc at) z [] mid back (tail_same b m _ _ same) (any_tail m mid h)))
    (cases_Bool (is_return b z))
  where
    any_tail : (m : ℕ) (mid : List ℕ) → list_any (λ c. c == 10) (m ∷ mid) ≡ false → list_any (λ c. c == 10) mid ≡ false
    any_tail m mid h = ⊎_elim (λ (e : (m == 10) ≡ true). let wrong : true ≡ false = rw e at h in absurd cc) (λ (e : (m == 10) ≡ false). rw e at h) (cases_Bool (m == 10))
held_part at (b ∷ z) (f ∷ front) mid back e h =
    ⊎_elim (λ (r : is_return b z ≡ true). held_return at b (suc (length front)) z mid r (omega arith) (held_part at z (f ∷ front) mid back (rw r at e) h))
    (λ (r : is_return b z ≡ false). let same : b ∷ with_feeds z ≡ f ∷ (front ++ (mid ++ back)) = rw r at e in held_other at b (length front) z mid r (held_part (suc at) z front mid back (tail_same b f _ _ same) h))
    (cases_Bool (is_return b z))

pub place_held : (z : List ℕ) (m : ℕ) → m ≤ length (with_feeds z) → place_in z m ≡ m + before m 0 z
unfolding place_in
place_held z m l = rw (le_true m (length (with_feeds z)) l) refl

-- a part of the text with line feeds alone that holds none stands in the text
pub part_moved : (z front mid back : List ℕ) → with_feeds z ≡ front ++ (mid ++ back) → list_any (λ c. c == 10) mid ≡ false → slice_range z (place_in z (length front)) (place_in z (length front + length mid)) ≡ mid
part_moved z front mid back e h =
    let n = length front in
    let len : length (with_feeds z) ≡ n + (length mid + length back) = ap length e ∙ length-append front (mid ++ back) ∙ ap (λ m. n + m) (length-append mid back) in
    let held = held_part 0 z front mid back e h in
    let start = place_held z n (omega arith) in
    let end = place_held z (n + length mid) (omega arith) in
    let first : 0 + n ≡ n = omega arith in
    let last : 0 + (n + length mid) ≡ n + length mid = omega arith in
    let same : before (n + length mid) 0 z ≡ before n 0 z = ap (λ k. before k 0 z) (sym last) ∙ held.1 ∙ ap (λ k. before k 0 z) first in
    let part : take (length mid) (drop (n + before n 0 z) z) ≡ mid = ap (λ k. take (length mid) (drop (n + before k 0 z) z)) (sym first) ∙ held.0 in
    let many : (n + length mid + before (n + length mid) 0 z) - (n + before n 0 z) ≡ length mid = omega arith in
    rw (start, end) (ap (λ m. take m (drop (n + before n 0 z) z)) many ∙ part)

-- ---- the places of items

abbrev pub moved_place : (ℕ → ℕ) → ItemPlace → ItemPlace
moved_place place p = record { id = p.id; range = moved_range place p.range; name = option_map (moved_range place) p.name; body = option_map (moved_range place) p.body }

pub place_le : (place : ℕ → ℕ) (end : ℕ) → ((m n : ℕ) → m < n → n ≤ end → place m < place n) → (m n : ℕ) → m ≤ n → n ≤ end → place m ≤ place n
place_le place end rises m n l h = ⊎_elim (λ (k : m ≡ n). let e = ap place k in omega arith) (λ (k : m < n). let r = rises m n k h in omega arith) (eq-or-lt_of_le l)

module _ (place : ℕ → ℕ) (end : ℕ) (rises : (m n : ℕ) → m < n → n ≤ end → place m < place n)
    (N M : Telling) (told : (o : Option (List ℕ)) (r : Option TextRange) → N o r → M o (option_map (moved_range place) r)) where
  moved_name : (r : TextRange) (o : Option TextRange) → r.end ≤ end → IsNameIn r o → IsNameIn (moved_range place r) (option_map (moved_range place) o)
  moved_name r None l h = tt
  moved_name r (Some n) l h = (place_le place end rises r.start n.start h.0 (omega (arith, h.1, h.2)), rises n.start n.end h.1 (omega (arith, h.2)), place_le place end rises n.end r.end h.2 l)

  moved_body : (r : TextRange) (o : Option TextRange) → r.end ≤ end → IsBodyIn r o → IsBodyIn (moved_range place r) (option_map (moved_range place) o)
  moved_body r None l h = tt
  moved_body r (Some b) l h =
      let first : place b.start < place (b.start + 1) = rises b.start (b.start + 1) (omega arith) (omega (arith, h.1, h.2)) in
      let second : place (b.start + 1) < place b.end = rises (b.start + 1) b.end (omega (arith, h.1)) (omega (arith, h.2)) in
      (place_le place end rises r.start b.start h.0 (omega (arith, h.1, h.2)), omega arith, ap place h.2)

  pub places_moved : {from to : ℕ} {is : ItemViews} {ps rest : List ItemPlace} → ArePlaces N from to is ps rest → (low high : ℕ) → low ≤ place from → place to ≤ high → to ≤ end
      → ArePlaces M low high is (map (moved_place place) ps) (map (moved_place place) rest)
  places_moved nothing low high l h e = nothing
  places_moved {from} {to} (placed {i = i} {p = p} at inside behind) low high l h e =
      let within : p.range.end ≤ end = omega (arith, at.ends) in
      let begins : place from ≤ place p.range.start = place_le place end rises from p.range.start at.begins (omega (arith, at.some)) in
      let ends : place p.range.end ≤ place to = place_le place end rises p.range.end to at.ends e in
      let next : place p.range.start < place (p.range.start + 1) = rises p.range.start (p.range.start + 1) (omega arith) (omega (arith, at.some)) in
      let here : IsPlace M low high i (moved_place place p) = record { id = at.id; begins = omega arith; some = rises p.range.start p.range.end at.some within; ends = omega arith; name = moved_name p.range p.name within at.name; body = moved_body p.range p.body within at.body; named = λ other. told (name_of i) p.name (at.named other) } in
      placed here (places_moved inside (place p.range.start + 1) (place p.range.end) (omega arith) (omega arith) within) (places_moved behind (place p.range.end) high (omega arith) h e)
