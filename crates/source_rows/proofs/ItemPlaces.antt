-- Places by their ids.
use Rattle.std.proofs.Common.{◌≡◌, ◌≢◌, ℕ, suc, ◌<◌, ◌≤◌, ◌+◌, ◌-◌, ◌==◌, true, false, if◌then◌else◌, List, [], ◌∷◌, ◌++◌, drop, length, length-append, length-drop, take, take-append-drop, refl, ap, sym, ◌∙◌, subst, Some, arith, append_assoc, ⊎_elim, slice_index_or, rules}
use Rattle.std.proofs.Math.Seq.{drop-append_seam}
use Rattle.std.proofs.lemmas.Bool.{cases_Bool}
use Rattle.std.proofs.lemmas.Bool.Decides.{nat_tests, same_from_decides}
use Rattle.hir_input.specs.Equality.{DecidesEq}
use Rattle.hir_input.specs.contracts.ids.FileAstIdPartialEq.TheImpl as ids
use Rattle.hir_input.specs.declared.ids.AstIdKind.{AstIdKind}
use Rattle.hir_input.specs.declared.ids.AstIdKind.TheVariants as kind
use Rattle.hir_input.specs.declared.ids.FileAstId.{FileAstId}
use Rattle.rust_ids.specs.Ids.{kind_place}
use Rattle.rust_items.specs.declared.source_file.ItemPlace.{ItemPlace}
use Rattle.source_rows.specs.Ends.{IsEndOf}
use Rattle.source_rows.specs.Places.{AreDistinct, is_id, place_of}

to_end : {A : Type 0} (front left all : List A) → front ++ left ≡ all → IsEndOf left all
to_end front left all e =
    let both : length (front ++ left) ≡ length front + length left = length-append front left in
    let whole : length (front ++ left) ≡ length all = ap length e in
    let count : length all - length left ≡ length front = omega arith in
    rw (count, ← e) (drop-append_seam front left)

from_end : {A : Type 0} (left all : List A) → IsEndOf left all → take (length all - length left) all ++ left ≡ all
from_end left all e = ap (λ l. take (length all - length left) all ++ l) (sym e) ∙ take-append-drop (length all - length left) all

pub end_itself : {A : Type 0} (xs : List A) → IsEndOf xs xs
end_itself xs = to_end [] xs xs refl

pub end_shorter : {A : Type 0} (x : A) (ys all : List A) → IsEndOf (x ∷ ys) all → IsEndOf ys all
end_shorter x ys all e =
    let front = take (length all - length (x ∷ ys)) all in
    to_end (front ++ x ∷ []) ys all (append_assoc front (x ∷ []) ys ∙ from_end (x ∷ ys) all e)

-- what is left of a list from a place on
pub end_dropped : {A : Type 0} (n : ℕ) (xs : List A) → n ≤ length xs → IsEndOf (drop n xs) xs
end_dropped n xs l =
    let long = length-drop n xs in
    let same : length xs - length (drop n xs) ≡ n = omega (arith, long, l) in
    ap (λ m. drop m xs) same

-- ---- ids

abbrev kind_of : ℕ → AstIdKind
kind_of n =
    if n == 0 then kind.Const else if n == 1 then kind.Enum else if n == 2 then kind.ExternBlock else if n == 3 then kind.ExternCrate
    else if n == 4 then kind.Fn else if n == 5 then kind.Impl else if n == 6 then kind.MacroDef else if n == 7 then kind.MacroCall
    else if n == 8 then kind.MacroRules else if n == 9 then kind.Module else if n == 10 then kind.Static else if n == 11 then kind.Struct
    else if n == 12 then kind.Trait else if n == 13 then kind.TypeAlias else if n == 14 then kind.Union else kind.Use

kind_back : (k : AstIdKind) → kind_of (kind_place k) ≡ k
kind_back kind.Const = refl
kind_back _ = refl

abbrev made : AstIdKind → ℕ → ℕ → FileAstId
made kind hash number = record { kind = kind; hash = hash; number = number }

id_is : (a b : FileAstId) → a.kind ≡ b.kind → a.hash ≡ b.hash → a.number ≡ b.number → a ≡ b
id_is a b k h n = ap (λ x. made x a.hash a.number) k ∙ ap (λ x. made b.kind x a.number) h ∙ ap (λ x. made b.kind b.hash x) n

-- ids that pass the test are one
is_one : (a b : FileAstId) → is_id a b ≡ true → a ≡ b
is_one a b t =
    let places : kind_place a.kind ≡ kind_place b.kind = grind (arith, nat_tests) in
    let hashes : a.hash ≡ b.hash = grind (arith, nat_tests) in
    let numbers : a.number ≡ b.number = grind (arith, nat_tests) in
    id_is a b (sym (kind_back a.kind) ∙ ap kind_of places ∙ kind_back b.kind) hashes numbers

-- and one id passes it
one_is : (a b : FileAstId) → a ≡ b → is_id a b ≡ true
one_is a b e = subst (λ x. is_id a x ≡ true) e (let same : is_id a a ≡ true = grind (arith, nat_tests) in same)

ids_decide : DecidesEq ids.ghosts.eq
ids_decide a b = search rules

-- it is that of `==`
pub same_id : (a b : FileAstId) → ids.ghosts.eq a b ≡ is_id a b
same_id a b = same_from_decides (ids.ghosts.eq a b) (is_id a b) (ids_decide a b) (is_one a b, one_is a b)

-- ---- distinct places

tail_distinct : (x : ItemPlace) (xs : List ItemPlace) → AreDistinct (x ∷ xs) → AreDistinct xs
tail_distinct x xs d i j p e l = d (suc i) (suc j) p (omega arith) (omega arith)

-- the first is none of the others
head_apart : (x : ItemPlace) (xs : List ItemPlace) → AreDistinct (x ∷ xs) → (k : ℕ) (p : ItemPlace) → k < length xs → x.id ≢ (slice_index_or xs k p).id
head_apart x xs d k p l = d 0 (suc k) p (omega arith) (omega arith)

-- what is found has the id
found_id : (id : FileAstId) (xs : List ItemPlace) (p : ItemPlace) → place_of id xs ≡ Some p → (k : ℕ) × (k < length xs) × ((q : ItemPlace) → id ≡ (slice_index_or xs k q).id)
found_id id [] p e = absurd (cc)
found_id id (x ∷ xs) p e =
    ⊎_elim
    (λ t. (0, omega arith, λ q. is_one id x.id t))
    (λ t.
    let rest : place_of id xs ≡ Some p = rw t at e in
    let at = found_id id xs p rest in (suc at.0, omega arith, at.2))
    (cases_Bool (is_id id x.id))

found_behind : (id : FileAstId) (x : ItemPlace) (xs : List ItemPlace) (p : ItemPlace) → AreDistinct (x ∷ xs) → place_of id xs ≡ Some p → is_id id x.id ≡ false
found_behind id x xs p d e =
    ⊎_elim
    (λ t. let at = found_id id xs p e in absurd (head_apart x xs d at.0 p at.1 (sym (is_one id x.id t) ∙ at.2 p)))
    (λ t. t)
    (cases_Bool (is_id id x.id))

later : (id : FileAstId) (front left : List ItemPlace) (p : ItemPlace) → AreDistinct (front ++ left) → place_of id left ≡ Some p → place_of id (front ++ left) ≡ Some p
later id [] left p d e = e
later id (x ∷ front) left p d e =
    let rest = later id front left p (tail_distinct x (front ++ left) d) e in
    let other = found_behind id x (front ++ left) p d rest in rw other rest

-- of distinct places, the first one behind some has no other before it
pub found_later : (id : FileAstId) (left all : List ItemPlace) (p : ItemPlace) → AreDistinct all → IsEndOf left all → place_of id left ≡ Some p → place_of id all ≡ Some p
found_later id left all p d e f =
    let whole : take (length all - length left) all ++ left ≡ all = from_end left all e in
    subst (λ xs. place_of id xs ≡ Some p) whole (later id (take (length all - length left) all) left p (subst AreDistinct (sym whole) d) f)
