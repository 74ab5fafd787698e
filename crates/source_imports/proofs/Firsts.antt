-- The first imports that are alike, by what they have in common.
use Rattle.source_imports.proofs.Common.{◌≡◌, ℕ, ◌+◌, ◌<◌, length, map, take, subst, ◌==◌, ◌&&◌, Bool, true, false, List, [], ◌∷◌, ◌++◌, Option, Some, None, Bor, refl, ap, sym, ◌∙◌, ⊎_elim, if◌then◌else◌, nat_eq, option_map, slice_index_or, Decides, find, map-append, take_more, FileAstId, cases_Bool, false≢true, Named, is_alike, first_alike, NamedKey, named_key_view, id_key, key, is_around, has_named_key, same_named_key, Firsts, first_in, PutsFirst, FindsFirsts, listed_named_view}
use Rattle.std.specs.Cmp.Lexicographic.{pointwise, pointwise_decides}
use Rattle.std.specs.HashMap.{get, get_by}
use Rattle.std.specs.Option.{option_eq, option_or}
use Rattle.std.proofs.Common.{cond}
use Rattle.std.proofs.lemmas.Bool.Decides.{Decides-eqb, Decides-and, Decides-like, same_from_decides}
use Rattle.std.proofs.lemmas.List.Folds.{find-append}
use Rattle.source_imports.specs.Inner.{alike_by}
use Rattle.source_imports.specs.ImportCfgs.{ImportChoice}
use Rattle.source_imports.specs.Repeated.{are_excluded, is_one_around}
use Rattle.std.proofs.Common.{bytes_eq, not}
use Rattle.hir_input.specs.Equality.{DecidesEq, DecidesEqOf}
use Rattle.source_imports.specs.declared.repeated.Key as code_key
use Rattle.source_imports.specs.declared.repeated.Named as code_named

never : {P : Type 0} → (P → ⊥) → Decides false P
never f = (λ h. absurd (false≢true h), λ p. absurd (f p))

texts_decide : (a b : List ℕ) → Decides (pointwise nat_eq a b) (a ≡ b)
texts_decide = pointwise_decides Decides-eqb

triple_decides : (a b : ℕ × ℕ × ℕ) → Decides (a.0 == b.0 && (a.1 == b.1 && a.2 == b.2)) (a ≡ b)
triple_decides a b =
    Decides-like _ (λ p i. (p.0 i, p.1.0 i, p.1.1 i)) (λ e. (ap (λ t. t.0) e, (ap (λ t. t.1) e, ap (λ t. t.2) e)))
    (Decides-and _ _ (Decides-eqb a.0 b.0) (Decides-and _ _ (Decides-eqb a.1 b.1) (Decides-eqb a.2 b.2)))

fields_decide : (a b : ℕ × ℕ × ℕ) → Decides ((a.0 == b.0 && a.1 == b.1) && a.2 == b.2) (a ≡ b)
fields_decide a b =
    Decides-like _ (λ p i. (p.0.0 i, p.0.1 i, p.1 i)) (λ e. ((ap (λ t. t.0) e, ap (λ t. t.1) e), ap (λ t. t.2) e))
    (Decides-and _ _ (Decides-and _ _ (Decides-eqb a.0 b.0) (Decides-eqb a.1 b.1)) (Decides-eqb a.2 b.2))

-- ---- `==` decides whether two keys are one

some_decide : {T : Type 0} (test : T → T → Bool) → DecidesEq test → (o p : Option T) → Decides (option_eq test o p) (o ≡ p)
some_decide test d None None = (λ h. refl, λ e. refl)
some_decide test d (Some a) (Some b) = Decides-like _ (ap Some) (λ e. cc) (d a b)
some_decide test d _ _ = never (λ e. cc)

keys_decide : DecidesEqOf named_key_view same_named_key
keys_decide a b =
    Decides-like _ (λ p i. record { around = p.0 i; text = p.1 i }) (λ e. (ap (λ k. k.around) e, ap (λ k. k.text) e))
    (Decides-and _ _ (some_decide (λ x y. (x.0 == y.0 && x.1 == y.1) && x.2 == y.2) fields_decide a.around b.around) (texts_decide a.text.now b.text.now))

around_decides : (a : Option (ℕ × ℕ × ℕ)) (b : Option FileAstId) → Decides (is_around a b) (a ≡ option_map id_key b)
around_decides None None = (λ h. refl, λ e. refl)
around_decides (Some a) (Some id) = Decides-like _ (ap Some) (λ e. cc) (triple_decides a (id_key id))
around_decides _ _ = never (λ e. cc)

key_decides : (k : NamedKey) (x : Named) → Decides (has_named_key k x) (k ≡ key x)
key_decides k x =
    Decides-like _ (λ p i. record { around = p.0 i; text = p.1 i }) (λ e. (ap (λ z. z.around) e, ap (λ z. z.text) e))
    (Decides-and _ _ (around_decides k.around x.around) (texts_decide k.text x.text))

key_is : (k q : code_key.Key) (x : Named) → named_key_view k ≡ key x → same_named_key k q ≡ has_named_key (named_key_view q) x
key_is k q x e = same_from_decides (same_named_key k q) (has_named_key (named_key_view q) x) (Decides-like _ (λ p. sym p ∙ e) (λ p. e ∙ sym p) (keys_decide k q)) (key_decides (named_key_view q) x)

key_same : (k q z : code_key.Key) → same_named_key k q ≡ true → same_named_key k z ≡ same_named_key q z
key_same k q z h = let e : named_key_view k ≡ named_key_view q = (keys_decide k q).0 h in same_from_decides (same_named_key k z) (same_named_key q z) (keys_decide k z) (Decides-like _ (λ p. e ∙ p) (λ p. sym e ∙ p) (keys_decide q z))

-- a table has the same at keys that are one
first_same : (table : Firsts) (k q : code_key.Key) → same_named_key k q ≡ true → first_in table k ≡ first_in table q
first_same table k q h = λ i. option_map (λ n. listed_named_view n.now) (get_by (λ z. key_same k q z h i) table)

-- ---- one more import

-- there is none
pub put_first : (old new : Firsts) (k : code_key.Key) (b : Bor code_named.Named) → first_in old k ≡ None
    → ((q : code_key.Key) → get same_named_key new q ≡ cond (same_named_key k q) (Some b) (get same_named_key old q)) → PutsFirst old new k (listed_named_view b.now)
put_first old new k b e put q =
    ⊎_elim
    (λ (t : same_named_key k q ≡ true).
    let none : first_in old q ≡ None = sym (first_same old k q t) ∙ e in
    let here : get same_named_key new q ≡ Some b = put q ∙ ap (λ c. cond c (Some b) (get same_named_key old q)) t in
    rw (t, none) (ap (option_map (λ (n : Bor code_named.Named). listed_named_view n.now)) here))
    (λ (t : same_named_key k q ≡ false).
    let there : get same_named_key new q ≡ get same_named_key old q = put q ∙ ap (λ c. cond c (Some b) (get same_named_key old q)) t in
    rw t (ap (option_map (λ (n : Bor code_named.Named). listed_named_view n.now)) there))
    (cases_Bool (same_named_key k q))

last_or : (o : Option Named) (p : Named → Bool) (x : Named) (b : Bool) → b ≡ p x → (if b then option_or o (Some x) else o) ≡ option_or o (find p (x ∷ []))
last_or o p x true e = rw (← e) refl
last_or None p x false e = rw (← e) refl
last_or (Some y) p x false e = refl

-- the table finds the first ones of one more
pub finds_more : (old new : Firsts) (xs : List Named) (k : code_key.Key) (x : Named) → named_key_view k ≡ key x → PutsFirst old new k x → FindsFirsts old xs → FindsFirsts new (xs ++ x ∷ [])
finds_more old new xs k x e put finds q =
    let p = has_named_key (named_key_view q) in
    put q ∙ ap (λ o. if same_named_key k q then option_or o (Some x) else o) (finds q)
    ∙ last_or (find p xs) p x (same_named_key k q) (key_is k q x e) ∙ sym (find-append p xs (x ∷ []))

-- ---- imports that are alike have one key, and are not excluded

same_around : (x y : Option FileAstId) (a b : List ℕ) → (is_one_around x y && bytes_eq a b) ≡ (is_around (option_map id_key x) y && bytes_eq a b)
same_around None None a b = refl
same_around (Some x) (Some y) a b = refl
same_around None (Some y) a b = refl
same_around (Some x) None a b = refl

alike_is : (c : ImportChoice) (x y : Named) → is_alike c x y ≡ (has_named_key (key x) y && not (are_excluded c x y))
alike_is c x y = ap (λ b. b && not (are_excluded c x y)) (same_around x.around y.around x.text y.text)

-- by the test of two keys
pub alike_by_keys : (c : ImportChoice) (k q : code_key.Key) (x y : Named) → named_key_view k ≡ key y → named_key_view q ≡ key x → is_alike c x y ≡ (same_named_key k q && not (are_excluded c x y))
alike_by_keys c k q x y e f = alike_is c x y ∙ ap (λ b. b && not (are_excluded c x y)) (ap (λ z. has_named_key z y) (sym f) ∙ sym (key_is k q y e))

-- a first one of those with a test may fail a second one
abbrev first_or : (Named → Bool) → (Named → Bool) → Option Named → List Named → Option Named
first_or p r None ys = None
first_or p r (Some f) ys = if r f then find (λ y. p y && not (r y)) ys else Some f

found_both : (p r : Named → Bool) (ys all : List Named) → find (λ y. p y && not (r y)) ys ≡ find (λ y. p y && not (r y)) all → first_or p r (find p ys) all ≡ find (λ y. p y && not (r y)) ys
found_both p r [] all e = refl
found_both p r (y ∷ ys) all e = by (found_both p r ys all) (p y) (r y) refl refl
  where
    by : (find (λ z. p z && not (r z)) ys ≡ find (λ z. p z && not (r z)) all → first_or p r (find p ys) all ≡ find (λ z. p z && not (r z)) ys) → (b d : Bool) → p y ≡ b → r y ≡ d → first_or p r (find p (y ∷ ys)) all ≡ find (λ z. p z && not (r z)) (y ∷ ys)
    by more true true g h =
        let first : first_or p r (find p (y ∷ ys)) all ≡ find (λ z. p z && not (r z)) all = rw (g, h) refl in
        first ∙ sym e
    by more true false g h = rw (g, h) refl
    by more false d g h =
        let first : first_or p r (find p (y ∷ ys)) all ≡ first_or p r (find p ys) all = rw g refl in
        let both : find (λ z. p z && not (r z)) (y ∷ ys) ≡ find (λ z. p z && not (r z)) ys = rw g refl in
        first ∙ more (sym both ∙ e) ∙ sym both

-- what is alike by the first of its key is the first that is alike
pub alike_is_first : (c : ImportChoice) (table : Firsts) (xs : List Named) (k : code_key.Key) (x : Named) → named_key_view k ≡ key x → FindsFirsts table xs → alike_by c x (first_in table k) xs ≡ first_alike c x xs
alike_is_first c table xs k x e finds =
    let p = has_named_key (key x) in
    let r = are_excluded c x in
    let all : first_alike c x xs ≡ find (λ y. p y && not (r y)) xs = λ i. find (λ y. alike_is c x y i) xs in
    ap (λ o. alike_by c x o xs) (finds k ∙ ap (λ z. find (has_named_key z) xs) e) ∙ same (find p xs) ∙ found_both p r xs xs refl ∙ sym all
  where
    same : (o : Option Named) → alike_by c x o xs ≡ first_or (has_named_key (key x)) (are_excluded c x) o xs
    same None = refl
    same (Some f) = ap (λ z. if are_excluded c x f then z else Some f) (λ i. find (λ y. alike_is c x y i) xs)

-- ---- along a list

pub finds_next : {A : Type 0} (f : A → Named) (old new : Firsts) (xs : List A) (i : ℕ) (x : A) (k : code_key.Key) → i < length xs → slice_index_or xs i x ≡ x
    → named_key_view k ≡ key (f x) → PutsFirst old new k (f x) → FindsFirsts old (map f (take i xs)) → FindsFirsts new (map f (take (i + 1) xs))
finds_next f old new xs i x k l g e put finds =
    let more : take (i + 1) xs ≡ take i xs ++ x ∷ [] = take_more xs i x l ∙ ap (λ y. take i xs ++ y ∷ []) g in
    subst (FindsFirsts new) (sym (ap (map f) more ∙ map-append f (take i xs) (x ∷ []))) (finds_more old new (map f (take i xs)) k (f x) e put finds)
