-- The crates of a table, what is lowered for each, and other options.
use Rattle.std.proofs.Common.{◌≡◌, ℕ, zero, suc, ◌+◌, ◌<◌, List, [], ◌∷◌, ◌++◌, length, map, drop, set, get_or, Some, slice_get, refl, sym, ap, subst, ◌∙◌, arith, append_assoc, option_map}
use Rattle.item_tree_db.proofs.Common.{drop_more, length-map, same_Some, slice_get-map, slice_get_read, AtomView, SyntaxView, CrateData, CrateView, crate_view, Place, Row, TreeFits, CratesFit, brought, fresh_row, change_at, with_cfg}

-- ---- one crate after another

pub drop_at : {A : Type 0} (xs : List A) (i : ℕ) (x : A) → x ≡ get_or xs i x → i < length xs → drop i xs ≡ x ∷ drop (i + 1) xs
drop_at {A} xs i x e h = drop_more xs i x h ∙ ap (λ (z : A). z ∷ drop (i + 1) xs) (sym e)

-- what is done, one more that is made of x, and what is left
pub one_more : {A B : Type 0} (f : A → B) (done : List B) (xs : List A) (i : ℕ) (x : A) (y : B) → x ≡ get_or xs i x → y ≡ f x → i < length xs → (done ++ y ∷ []) ++ map f (drop (i + 1) xs) ≡ done ++ map f (drop i xs)
one_more {A} {B} f done xs i x y e h p =
    append_assoc done (y ∷ []) (map f (drop (i + 1) xs)) ∙ ap (λ (b : B). done ++ b ∷ map f (drop (i + 1) xs)) h ∙ ap (λ (l : List A). done ++ map f l) (sym (drop_at xs i x e p))

fits_both : (skipped : List (List ℕ)) (place : Place) (s : SyntaxView) (krate : CrateView) (crates : List CrateView) → TreeFits skipped place (Some krate) (Some s) → CratesFit crates skipped place s → CratesFit (krate ∷ crates) skipped place s
fits_both skipped place s krate crates here rest zero = here
fits_both skipped place s krate crates here rest (suc i) = rest i

pub fits_next : (skipped : List (List ℕ)) (place : Place) (s : SyntaxView) (crates : List CrateData) (i : ℕ) (x : CrateData) → x ≡ get_or crates i x → i < length crates
    → TreeFits skipped place (Some (crate_view x)) (Some s) → CratesFit (map crate_view (drop (i + 1) crates)) skipped place s → CratesFit (map crate_view (drop i crates)) skipped place s
fits_next skipped place s crates i x e p here rest = subst (λ (l : List CrateData). CratesFit (map crate_view l) skipped place s) (sym (drop_at crates i x e p)) (fits_both skipped place s (crate_view x) (map crate_view (drop (i + 1) crates)) here rest)

-- what each is brought
pub fresh_get : (n : ℕ) (skipped : List (List ℕ)) (place : Place) (s : SyntaxView) (d : Row) (crates : List CrateData) (i : ℕ) → i < length (map crate_view crates)
    → get_or (map (λ krate. brought n skipped place s (crate_view krate)) crates) i d ≡ fresh_row n skipped place (slice_get (map crate_view crates) i) (Some s)
fresh_get n skipped place s d [] i p = absurd (omega arith)
fresh_get n skipped place s d (c ∷ crates) zero p = refl
fresh_get n skipped place s d (c ∷ crates) (suc i) p = fresh_get n skipped place s d crates i (omega arith)

-- ---- options

-- given back what it had, a crate is what it was
pub given_back : (o old : List AtomView) (i : ℕ) (crates : List CrateView) → option_map (λ k. k.options) (slice_get crates i) ≡ Some old → change_at i (with_cfg old) (change_at i (with_cfg o) crates) ≡ crates
given_back o old i [] h = refl
given_back o old zero (k ∷ crates) h = let e = same_Some k.options old h in λ j. record { root = k.root; options = sym e j; attrs = k.attrs } ∷ crates
given_back o old (suc i) (k ∷ crates) h = ap (λ (ks : List CrateView). k ∷ ks) (given_back o old i crates h)

-- and what it is given, it has
pub given_options : (o now : List AtomView) (i : ℕ) (crates : List CrateView) → option_map (λ k. k.options) (slice_get (change_at i (with_cfg o) crates) i) ≡ Some now → now ≡ o
given_options o now i [] h = cc
given_options o now zero (k ∷ crates) h = sym (same_Some o now h)
given_options o now (suc i) (k ∷ crates) h = given_options o now i crates h

pub crates_given : (o : List AtomView) (crates : List CrateData) (i : ℕ) (x y : CrateData) → x ≡ get_or crates i x → y ≡ record { root = x.root; cfg = o; attrs = x.attrs } → i < length crates
    → map crate_view (set crates i y) ≡ change_at i (with_cfg o) (map crate_view crates)
crates_given o [] i x y e q h = absurd (omega arith)
crates_given o (c ∷ crates) zero x y e q h = ap (λ (z : CrateData). crate_view z ∷ map crate_view crates) (q ∙ ap (λ (z : CrateData). record { root = z.root; cfg = o; attrs = z.attrs }) e)
crates_given o (c ∷ crates) (suc i) x y e q h = ap (λ (ks : List CrateView). crate_view c ∷ ks) (crates_given o crates i x y e q (omega arith))

pub crate_at : (crates : List CrateData) (i : ℕ) (x : CrateData) → x ≡ get_or crates i x → i < length crates → slice_get (map crate_view crates) i ≡ Some (crate_view x)
crate_at crates i x e h = slice_get-map crate_view crates i ∙ ap (option_map crate_view) (slice_get_read crates (length crates) i x refl h e)

-- the crate that was given options, in the list after it
pub given_here : (o : List AtomView) (crates after : List CrateData) (k : ℕ) (x : CrateData) → x ≡ get_or after k x → k < length (map crate_view crates) → length after ≡ length crates → map crate_view after ≡ change_at k (with_cfg o) (map crate_view crates)
    → slice_get (change_at k (with_cfg o) (map crate_view crates)) k ≡ Some (crate_view x)
given_here o crates after k x e p same is = ap (λ (l : List CrateView). slice_get l k) (sym is) ∙ crate_at after k x e (rw same (subst (λ (m : ℕ). k < m) (length-map crates crate_view) p))
