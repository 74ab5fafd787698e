-- What stands in the column of attributes at the places.
use Rattle.std.proofs.Common.{◌≡◌, ℕ, ◌+◌, eqb, Bool, true, false, List, [], ◌∷◌, ◌++◌, length, map, suc, Option, Some, None, refl, ap, sym, ◌∙◌, arith, add-zero, append_assoc, length-append, inl, inr}
use Rattle.item_tree.proofs.Common.{cases_Bool, eqb-true, map-id, CfgView, is_empty_of, has_no_attributes, unless, some_unless, column_of, places_from, plain_place, stored_at, or_no_attrs, attrs_stored, lent_attrs}
use Rattle.hir_input.specs.declared.attr.Attr.{Attr}
use Rattle.item_tree_attrs.specs.Collected.{Collected, nothing_collected as no_attrs}
use Rattle.item_tree.proofs.Pieces.{get-at-seam}

empty-is_of : (xs : List Attr) (o : Option CfgView) → is_empty_of xs o ≡ true → ◌≡◌ {A = Collected} (record { attrs = xs; false_cfg = o }) no_attrs
empty-is_of [] None h = refl
empty-is_of [] (Some cfg) h = cc
empty-is_of (a ∷ rest) cfg h = cc

pub empty-is : (c : Collected) → has_no_attributes c ≡ true → c ≡ no_attrs
empty-is c h = empty-is_of c.attrs c.false_cfg h

value-back_if : (b : Bool) (us vs : List Collected) (c : Collected) → has_no_attributes c ≡ b → attrs_stored (us ++ (unless b c ++ vs)) (some_unless b (length us)) ≡ c
value-back_if true us vs c h = sym (empty-is c h)
value-back_if false us vs c h = ap or_no_attrs (get-at-seam us c vs)

pub value-back : (us vs : List Collected) (c : Collected) → attrs_stored (us ++ (unless (has_no_attributes c) c ++ vs)) (some_unless (has_no_attributes c) (length us)) ≡ c
value-back us vs c = value-back_if (has_no_attributes c) us vs c refl

-- what is read at the places of several values
module _ {X : Type 0} (F : List Collected → Option ℕ → X) (g : Collected → X) (d : (us vs : List Collected) (c : Collected) → F (us ++ (unless (has_no_attributes c) c ++ vs)) (some_unless (has_no_attributes c) (length us)) ≡ g c) where
  pub each-place : (us vs : List Collected) (cs : List Collected) → map (F (us ++ (column_of cs ++ vs))) (places_from (length us) cs) ≡ map g cs
  each-place us vs [] = refl
  each-place us vs (c ∷ cs) =
      let p = unless (has_no_attributes c) c in
      let a : us ++ ((p ++ column_of cs) ++ vs) ≡ us ++ (p ++ (column_of cs ++ vs)) = ap (λ z. us ++ z) (append_assoc p (column_of cs) vs) in
      let b : us ++ (p ++ (column_of cs ++ vs)) ≡ (us ++ p) ++ (column_of cs ++ vs) = sym (append_assoc us p (column_of cs ++ vs)) in
      let x : F (us ++ ((p ++ column_of cs) ++ vs)) (some_unless (has_no_attributes c) (length us)) ≡ g c = ap (λ z. F z (some_unless (has_no_attributes c) (length us))) a ∙ d us (column_of cs ++ vs) c in
      let y : map (F (us ++ ((p ++ column_of cs) ++ vs))) (places_from (length us + length p) cs) ≡ map g cs =
      ap (λ z. map (F z) (places_from (length us + length p) cs)) (a ∙ b)
      ∙ ap (λ k. map (F ((us ++ p) ++ (column_of cs ++ vs))) (places_from k cs)) (sym (length-append us p))
      ∙ each-place (us ++ p) vs cs in
      λ i. x i ∷ y i

pub values-back : (us vs : List Collected) (cs : List Collected) → map (attrs_stored (us ++ (column_of cs ++ vs))) (places_from (length us) cs) ≡ cs
values-back us vs cs = each-place attrs_stored (λ c. c) value-back us vs cs ∙ map-id cs

lent-back_if : (b : Bool) (us vs : List Collected) (c : Collected) → stored_at (us ++ (unless b c ++ vs)) (some_unless b (length us)) ≡ some_unless b c
lent-back_if true us vs c = refl
lent-back_if false us vs c = get-at-seam us c vs

pub lent-back : (us vs : List Collected) (c : Collected) → stored_at (us ++ (unless (has_no_attributes c) c ++ vs)) (some_unless (has_no_attributes c) (length us)) ≡ lent_attrs c
lent-back us vs c = lent-back_if (has_no_attributes c) us vs c

pub lent-each : (us vs : List Collected) (cs : List Collected) → map (stored_at (us ++ (column_of cs ++ vs))) (places_from (length us) cs) ≡ map lent_attrs cs
lent-each us vs cs = each-place stored_at lent_attrs lent-back us vs cs

pub column-append : (cs ds : List Collected) → column_of (cs ++ ds) ≡ column_of cs ++ column_of ds
column-append [] ds = refl
column-append (c ∷ cs) ds = ap (λ z. unless (has_no_attributes c) c ++ z) (column-append cs ds) ∙ sym (append_assoc (unless (has_no_attributes c) c) (column_of cs) (column_of ds))

pub places-append : (k : ℕ) (cs ds : List Collected) → places_from k (cs ++ ds) ≡ places_from k cs ++ places_from (k + length (column_of cs)) ds
places-append k [] ds = rw add-zero refl
places-append k (c ∷ cs) ds =
    let p = unless (has_no_attributes c) c in
    let e : (k + length p) + length (column_of cs) ≡ k + length (p ++ column_of cs) = omega (arith, length-append p (column_of cs)) in
    ap (λ z. some_unless (has_no_attributes c) k ∷ z) (places-append (k + length p) cs ds ∙ ap (λ j. places_from (k + length p) cs ++ places_from j ds) e)

pub places-length : (k : ℕ) (cs : List Collected) → length (places_from k cs) ≡ length cs
places-length k [] = refl
places-length k (c ∷ cs) = ap suc (places-length (k + length (unless (has_no_attributes c) c)) cs)

abbrev pub number_of : Option ℕ → ℕ
number_of None = 4294967295
number_of (Some k) = k

-- a place has one number
pub number-plain : (i : ℕ) → number_of (plain_place i) ≡ i
number-plain i =
    elim (cases_Bool (eqb i 4294967295)) [
      | inl e ↦ rw e (sym (eqb-true i 4294967295 e))
      | inr e ↦ rw e refl
    ]

pub plain_place-injective : (i j : ℕ) → plain_place i ≡ plain_place j → i ≡ j
plain_place-injective i j e = sym (number-plain i) ∙ ap number_of e ∙ number-plain j
