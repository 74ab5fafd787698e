-- Steps of the functions.
use Rattle.std.proofs.Common.{◌≡◌, ◌<◌, ◌==◌, ℕ, zero, suc, true, Option, Some, None, List, [], ◌∷◌, length, get_or, IfSome, refl, ap, sym, ◌∙◌, arith, ◌≤◌, Bool, ◌++◌, take, drop, subst, map, append-nil, ◌↔◌}
use Rattle.rust_edits.proofs.Common.{IfNone, IsSome, is_some, TextRange, ItemPlace, begins_at, has_body_at, list_all, Loose, or_kept, same_loose, false≢true, nat_tests, when, drop_all, take_all, and_parts, eq-eqb, and_from}

-- the braces of one of these items are those of one of them
held_at : (items : List ItemPlace) (i : ℕ) (item : ItemPlace) (r : TextRange) → item.body ≡ Some r → i < length items → item ≡ get_or items i item → has_body_at r.start items ≡ true
held_at [] i item r b h e = absurd (omega arith)
held_at (p ∷ ps) zero item r b h e =
    let own : p.body ≡ Some r = sym (ap (λ (k : ItemPlace). k.body) e) ∙ b in
    let same : (r.start == r.start) ≡ true = grind (arith, nat_tests) in
    rw (own, same) refl
held_at (p ∷ ps) (suc i) item r b h e =
    let rest = held_at ps i item r b (omega arith) e in
    when (begins_at r.start p.body) (λ t. rw t refl) (λ t. rw (t, rest) refl)

by_some : {A : Type 0} {P : A → Type 0} (o : Option A) → ((a : A) → o ≡ Some a → P a) → IfSome o P
by_some None f = tt
by_some (Some a) f = f a refl

pub body_held : (items : List ItemPlace) (i : ℕ) (item : ItemPlace) → i < length items → item ≡ get_or items i item → IfSome item.body (λ body. has_body_at body.start items ≡ true)
body_held items i item h e = by_some item.body (λ r b. held_at items i item r b h e)

-- what is exactly so where there is a value is not so where there is none
pub off : {A : Type 0} (o : Option A) (P : Type 0) → IsSome o ↔ P → o ≡ None → P → ⊥
off o P t e p = false≢true (sym (ap (λ z. is_some z) e) ∙ t.1 p)

pub if_none : {A : Type 0} (o : Option A) (P : Type 0) → P → IfNone o P
if_none None P p = p
if_none (Some a) P p = tt

-- ---- what has places is moved, and loose brackets are compared

all_moved : {A : Type 0} (has : A → Bool) (move : A → A) (xs : List A) → list_all has xs ≡ true → map (or_kept has move) xs ≡ map move xs
all_moved has move [] e = refl
all_moved has move (x ∷ xs) e =
    let both = and_parts (has x) (list_all has xs) e in
    let first : or_kept has move x ≡ move x = rw both.0 refl in
    ap (λ y. y ∷ map (or_kept has move) xs) first ∙ ap (λ ys. move x ∷ ys) (all_moved has move xs both.1)

-- when all of a list is gone through
pub moved_each : {A : Type 0} (has : A → Bool) (move : A → A) (i : ℕ) (done xs : List A) → length done ≤ i → take i done ++ map (or_kept has move) (drop i done) ≡ map (or_kept has move) xs → done ≡ map (or_kept has move) xs
moved_each has move i done xs over e =
    let taken : take i done ++ map (or_kept has move) (drop i done) ≡ done =
    ap (λ ys. take i done ++ map (or_kept has move) ys) (drop_all i done over) ∙ append-nil (take i done) ∙ take_all i done over in
    sym taken ∙ e

pub moved_all : {A : Type 0} (has : A → Bool) (move : A → A) (done xs : List A) → done ≡ map (or_kept has move) xs → list_all has xs ≡ true → done ≡ map move xs
moved_all has move done xs e all = e ∙ all_moved has move xs all

pub same_is : (l m : Loose) → same_loose l m ≡ true → m ≡ l
same_is l m e = grind (arith, nat_tests)

pub same_of : (l m : Loose) → m ≡ l → same_loose l m ≡ true
same_of l m e = subst (λ (k : Loose). same_loose l k ≡ true) (sym e) (and_from (l.closing == l.closing) (l.opening == l.opening) (eq-eqb l.closing l.closing refl) (eq-eqb l.opening l.opening refl))
