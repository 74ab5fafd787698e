-- Items are in the order in which they begin, and the last that begins up to a place is found by halving.
use Rattle.std.proofs.Common.{◌≡◌, ◌≤◌, ◌<◌, ℕ, zero, suc, true, false, Option, Some, None, List, [], ◌∷◌, length, get_or, refl, ap, sym, ◌∙◌, arith}
use Rattle.std.specs.List.Sorted.{IsPartitionPoint, IsPartitionedBy}
use Rattle.rust_edits.proofs.Common.{slice_get-get_or, nat_le, slice_get, option_and_then, ItemViews, ItemPlace, Telling, ArePlaces, placed, BeginFrom, ItemsAreInOrder, last_begun, body_about, le-leb, view_placed, leb-true}
use Rattle.rust_items.specs.Places.{nothing}

-- ---- what is read of a text

rises : {N : Telling} {from to : ℕ} {is : ItemViews} {ps rest : List ItemPlace} → ArePlaces N from to is ps rest → (low : ℕ) → low ≤ from → low ≤ to → ((l : ℕ) → l ≤ to → BeginFrom l rest) → BeginFrom low ps
rises nothing low a b k = k low b
rises (placed {p = p} own inside later) low a b k =
    let begins = own.begins in
    let some = own.some in
    let ends = own.ends in
    (omega arith, rises inside p.range.start (omega arith) (omega arith) (λ l h. rises later l h (omega (arith, h)) k))

pub items_are_in_order : ItemsAreInOrder
items_are_in_order edition text read is = rises (view_placed edition text read is) 0 (omega arith) (omega arith) (λ l h. tt)

-- ---- the last that begins up to a place

from_at : (low : ℕ) (ps : List ItemPlace) → BeginFrom low ps → (j : ℕ) (d : ItemPlace) → j < length ps → low ≤ (get_or ps j d).range.start
from_at low [] h j d l = absurd (omega arith)
from_at low (p ∷ ps) h zero d l = h.0
from_at low (p ∷ ps) h (suc j) d l = let first = h.0 in let rest = from_at p.range.start ps h.1 j d (omega arith) in omega (arith, first, rest)

pub begun_first : (at low : ℕ) (ps : List ItemPlace) → BeginFrom low ps → IsPartitionedBy (λ (p : ItemPlace). nat_le p.range.start at) ps
begun_first at low [] h i j d le l e = absurd (omega arith)
begun_first at low (p ∷ ps) h zero zero d le l e = e
begun_first at low (p ∷ ps) h zero (suc j) d le l e =
    let first = from_at p.range.start ps h.1 j d (omega arith) in
    let begun = leb-true (get_or ps j d).range.start at e in
    le-leb p.range.start at (omega (arith, first, begun))
begun_first at low (p ∷ ps) h (suc i) zero d le l e = absurd (omega arith)
begun_first at low (p ∷ ps) h (suc i) (suc j) d le l e = begun_first at p.range.start ps h.1 i j d (omega arith) (omega arith) e

-- so many items begin up to a place, and they are the first
abbrev pub Begun : ℕ → List ItemPlace → ℕ → Type 0
Begun at items n = IsPartitionPoint (λ (p : ItemPlace). nat_le p.range.start at ≡ true) (λ (p : ItemPlace). nat_le p.range.start at ≡ false) items n

abbrev last_of : ℕ → List ItemPlace → Option ItemPlace
last_of zero ps = None
last_of (suc n) ps = slice_get ps n

last_is : (at n : ℕ) (ps : List ItemPlace) → n ≤ length ps → ((k : ℕ) (d : ItemPlace) → k < n → nat_le (get_or ps k d).range.start at ≡ true)
    → ((k : ℕ) (d : ItemPlace) → n ≤ k → k < length ps → nat_le (get_or ps k d).range.start at ≡ false) → last_begun at ps ≡ last_of n ps
last_is at zero [] l a b = refl
last_is at (suc n) [] l a b = absurd (omega arith)
last_is at zero (p ∷ ps) l a b =
    let e : nat_le p.range.start at ≡ false = b 0 p (omega arith) (omega arith) in
    rw e (last_is at zero ps (omega arith) (λ k d h. absurd (omega (arith, h))) (λ k d h i. b (suc k) d (omega arith) (omega (arith, i))))
last_is at (suc zero) (p ∷ ps) l a b =
    let e : nat_le p.range.start at ≡ true = a 0 p (omega arith) in
    let none : last_begun at ps ≡ None = last_is at zero ps (omega arith) (λ k d h. absurd (omega (arith, h))) (λ k d h i. b (suc k) d (omega arith) (omega (arith, i))) in
    rw (e, none) refl
last_is at (suc (suc n)) (p ∷ ps) l a b =
    let e : nat_le p.range.start at ≡ true = a 0 p (omega arith) in
    let some : slice_get ps n ≡ Some (get_or ps n p) = slice_get-get_or ps n p (omega arith) in
    let rest : last_begun at ps ≡ Some (get_or ps n p) = last_is at (suc n) ps (omega arith) (λ k d h. a (suc k) d (omega (arith, h))) (λ k d h i. b (suc k) d (omega (arith, h)) (omega (arith, i))) ∙ some in
    rw (e, rest) (sym some)

last_begun_is : (at n : ℕ) (ps : List ItemPlace) → n ≤ length ps → Begun at ps n → last_begun at ps ≡ last_of n ps
last_begun_is at n ps l h = last_is at n ps l (λ k d i. h.0 k d (omega arith) i) (λ k d i j. h.1 k d i j)

pub none_about : (at n : ℕ) (ps : List ItemPlace) → n ≤ length ps → Begun at ps n → n ≡ 0 → None ≡ body_about at ps
none_about at n ps l h e = sym (ap (option_and_then (λ (p : ItemPlace). p.body)) (last_begun_is at n ps l h ∙ ap (λ k. last_of k ps) e))

pub some_about : (at n i : ℕ) (ps : List ItemPlace) (item : ItemPlace) → n ≤ length ps → Begun at ps n → n ≡ suc i → item ≡ get_or ps i item → item.body ≡ body_about at ps
some_about at n i ps item l h e is =
    let last : last_begun at ps ≡ Some item = last_begun_is at n ps l h ∙ ap (λ k. last_of k ps) e ∙ slice_get-get_or ps i item (omega (arith, e)) ∙ ap Some (sym is) in
    sym (ap (option_and_then (λ (p : ItemPlace). p.body)) last)

pub none_of : (n : ℕ) → (1 ≤ n → ⊥) → n ≡ 0
none_of zero f = refl
none_of (suc n) f = absurd (f (omega arith))
