-- Sets of names and items, as they grow.
use Rattle.std.proofs.Common.{◌≡◌, ◌+◌, ◌≤◌, ◌<◌, ◌||◌, ℕ, Bool, true, false, List, [], ◌∷◌, ◌++◌, length, take, map, get_or, Option, Some, None, if◌then◌else◌, refl, sym, ap, subst, ◌∙◌, arith}
use Rattle.std.specs.List.{filter_map, list_any, cons_option}
use Rattle.std.specs.Option.{option_to_list}
use Rattle.std.proofs.Math.Bool.{or_assoc}
use Rattle.std.proofs.lemmas.Bool.{false≢true}
use Rattle.std.proofs.lemmas.List.{take_more, length-append, append-nil, map-append}
use Rattle.std.proofs.lemmas.List.Folds.{list_any-append}
use Rattle.std.proofs.lemmas.List.Elements.{filter_map-append}
use Rattle.indexmap.specs.IndexSet.{insert_key}
use Rattle.std.specs.{List.flat_map}
use Rattle.std.proofs.lemmas.Grind.{flat_map-append}
use Rattle.def_map.specs.declared.rows.NamedImport.{NamedImport}
use Rattle.def_map.specs.CrateView.{import_view}
use Rattle.def_map.specs.Numbering.{Interns}

or_false : (b : Bool) → (b || false) ≡ b
or_false true = refl
or_false false = refl

or_true : (b : Bool) → (b || true) ≡ true
or_true true = refl
or_true false = refl

module _ {K : Type 0} (E : K → K → Bool) (test : K → Bool) (respects : (x y : K) → E x y ≡ true → test x ≡ test y) (k : K) where
  found_before : (ks : List K) → list_any (E k) ks ≡ true → (list_any test ks || test k) ≡ list_any test ks
  found_before [] h = absurd (false≢true h)
  found_before (y ∷ ys) h = by (E k y) refl (found_before ys)
    where
      with_or : (a b c : Bool) → (b || c) ≡ b → ((a || b) || c) ≡ (a || b)
      with_or true b c e = refl
      with_or false b c e = e

      same : (b : Bool) → (b || list_any test ys || b) ≡ (b || list_any test ys)
      same true = refl
      same false = or_false (list_any test ys)

      by : (b : Bool) → E k y ≡ b → (list_any (E k) ys ≡ true → (list_any test ys || test k) ≡ list_any test ys) → (list_any test (y ∷ ys) || test k) ≡ list_any test (y ∷ ys)
      by true e more = subst (λ (b : Bool). (test y || list_any test ys || b) ≡ (test y || list_any test ys)) (sym (respects k y e)) (same (test y))
      by false e more = with_or (test y) (list_any test ys) (test k) (more (sym (ap (λ (b : Bool). b || list_any (E k) ys) e) ∙ h))

  any_inserted : (ks : List K) → list_any test (insert_key E ks k) ≡ (list_any test ks || test k)
  any_inserted ks = by (list_any (E k) ks) refl
    where
      by : (b : Bool) → list_any (E k) ks ≡ b → list_any test (insert_key E ks k) ≡ (list_any test ks || test k)
      by true e = ap (λ (b : Bool). list_any test (if b then ks else ks ++ k ∷ [])) e ∙ sym (found_before ks e)
      by false e = ap (λ (b : Bool). list_any test (if b then ks else ks ++ k ∷ [])) e ∙ list_any-append test ks (k ∷ []) ∙ ap (λ (b : Bool). list_any test ks || b) (or_false (test k))

length_inserted : {K : Type 0} (E : K → K → Bool) (ks : List K) (k : K) → length (insert_key E ks k) ≤ length ks + 1
length_inserted E ks k = by (list_any (E k) ks) refl
  where
    by : (b : Bool) → list_any (E k) ks ≡ b → length (insert_key E ks k) ≤ length ks + 1
    by true e = let same : length (insert_key E ks k) ≡ length ks = ap (λ (b : Bool). length (if b then ks else ks ++ k ∷ [])) e in omega arith
    by false e = let same : length (insert_key E ks k) ≡ length (ks ++ k ∷ []) = ap (λ (b : Bool). length (if b then ks else ks ++ k ∷ [])) e in omega (arith, length-append ks (k ∷ []))

module _ {K X : Type 0} (same : X → X → Bool) (of : K → X) where
  pub interns_none : (old new : List K) → new ≡ old → Interns same of old new []
  interns_none old new e = record {
    known = λ x. ap (list_any (λ key. same x (of key))) e ∙ sym (or_false (list_any (λ key. same x (of key)) old));
    few = let l : length new ≡ length old = ap length e in omega arith;
  }

  pub interns_key : (E : K → K → Bool) → ((a b : K) → E a b ≡ true → of a ≡ of b) → (old new : List K) (k : K) → new ≡ insert_key E old k → Interns same of old new (of k ∷ [])
  interns_key E respects old new k e = record {
    known = λ x. ap (list_any (λ key. same x (of key))) e ∙ any_inserted E (λ key. same x (of key)) (λ a b h. ap (same x) (respects a b h)) k old
        ∙ ap (λ (b : Bool). list_any (λ key. same x (of key)) old || b) (sym (or_false (same x (of k))));
    few = let l : length new ≡ length (insert_key E old k) = ap length e in omega (arith, length_inserted E old k);
  }

  pub interns_both : (old mid new : List K) (xs ys : List X) → Interns same of old mid xs → Interns same of mid new ys → Interns same of old new (xs ++ ys)
  interns_both old mid new xs ys a b = record {
    known = λ x. let test = λ (key : K). same x (of key) in
        b.known x ∙ ap (λ (c : Bool). c || list_any (same x) ys) (a.known x) ∙ or_assoc (list_any test old) (list_any (same x) xs) (list_any (same x) ys)
        ∙ ap (λ (c : Bool). list_any test old || c) (sym (list_any-append (same x) xs ys));
    few = omega (arith, a.few, b.few, length-append xs ys);
  }

-- what a list adds by its next element
pub mapped_more : {X Y Z : Type 0} (h : Y → Option Z) (v : X → Y) (xs : List X) (i : ℕ) (d : X) → i < length xs
    → filter_map h (map v (take (i + 1) xs)) ≡ filter_map h (map v (take i xs)) ++ option_to_list (h (v (get_or xs i d)))
mapped_more {Z = Z} h v xs i d low =
    ap (λ l. filter_map h (map v l)) (take_more xs i d low) ∙ ap (filter_map h) (map-append v (take i xs) (get_or xs i d ∷ []))
    ∙ filter_map-append h (map v (take i xs)) (v (get_or xs i d) ∷ []) ∙ ap (λ l. filter_map h (map v (take i xs)) ++ l) (by (h (v (get_or xs i d))))
  where
    by : (o : Option Z) → cons_option o [] ≡ option_to_list o
    by None = refl
    by (Some z) = refl

pub kept_more : {Y Z : Type 0} (h : Y → Option Z) (xs : List Y) (i : ℕ) (d : Y) → i < length xs → filter_map h (take (i + 1) xs) ≡ filter_map h (take i xs) ++ option_to_list (h (get_or xs i d))
kept_more {Z = Z} h xs i d low =
    ap (filter_map h) (take_more xs i d low) ∙ filter_map-append h (take i xs) (get_or xs i d ∷ []) ∙ ap (λ l. filter_map h (take i xs) ++ l) (by (h (get_or xs i d)))
  where
    by : (o : Option Z) → cons_option o [] ≡ option_to_list o
    by None = refl
    by (Some z) = refl

pub joined_more : {X Y : Type 0} (h : X → List Y) (xs : List X) (i : ℕ) (d : X) → i < length xs → flat_map h (take (i + 1) xs) ≡ flat_map h (take i xs) ++ h (get_or xs i d)
joined_more h xs i d low = ap (flat_map h) (take_more xs i d low) ∙ flat_map-append h (take i xs) (get_or xs i d ∷ []) ∙ ap (λ l. flat_map h (take i xs) ++ l) (append-nil (h (get_or xs i d)))

-- what is put in an empty set is all that it has
pub all_known : {K X : Type 0} (same : X → X → Bool) (of : K → X) (old new : List K) (xs : List X) → old ≡ [] → Interns same of old new xs → (x : X) → list_any (λ key. same x (of key)) new ≡ list_any (same x) xs
all_known same of old new xs e all x = all.known x ∙ ap (λ l. list_any (λ key. same x (of key)) l || list_any (same x) xs) e

pub names_of_paths : (imports : List NamedImport) → flat_map (λ (import : NamedImport). import.names.now) imports ≡ flat_map (λ u. u.names) (map import_view imports)
names_of_paths [] = refl
names_of_paths (x ∷ xs) = ap (λ l. x.names.now ++ l) (names_of_paths xs)
