-- Items found by their ids.
use Rattle.std.proofs.Common.{◌≡◌, ◌≢◌, ℕ, suc, zero, ◌<◌, ◌-◌, ◌==◌, List, [], ◌∷◌, Bor, length, drop, take, map, Option, Some, None, IsSome, refl, sym, ap, ◌∙◌, subst, arith, ⊎_elim, slice_index_or, AllPairs, flat_map}
use Rattle.source_session.proofs.Common.{option_map_or, cases_Bool, nat_tests, length-drop, take_all, Crate, FileAstId, Unfolding, Place, File, Block, State, unfolding_at, node_name, declaration_id, Entry, IsDeclared, bare_segment, declared_scope, found_with, head_scope, found_value, found_scope, text_bytes, text_places, Texts, text_of_place}
use Rattle.line_index.specs.declared.Units.{Units}
use Rattle.item_tree.specs.Layout.{node_at}
use Rattle.item_tree.specs.Shown.{IsContained}
use Rattle.tree_walk.specs.declared.collector.Declaration as code
use Rattle.source_listing.proofs.PushedTexts.{segments_of}

-- ---- what is around items

abbrev Scope : Type 0
Scope = ℕ × List (List ℕ)

abbrev own_id : Scope → ℕ
own_id x = x.0

abbrev Differ : ℕ → ℕ → Type 0
Differ i j = i ≢ j

-- what is found has the id
has_id : (id : ℕ) (xs : List Scope) (s : List (List ℕ)) → found_scope id xs ≡ Some s → (k : ℕ) × (k < length (map own_id xs)) × ((q : ℕ) → slice_index_or (map own_id xs) k q ≡ id)
has_id id [] s e = absurd (cc)
has_id id (x ∷ xs) s e =
    ⊎_elim
    (λ t. (0, omega arith, λ q. grind (arith, nat_tests, t)))
    (λ t.
    let rest : found_scope id xs ≡ Some s = rw t at e in
    let at = has_id id xs s rest in (suc at.0, omega arith, at.2))
    (cases_Bool (x.0 == id))

later : (id k : ℕ) (xs : List Scope) (s : List (List ℕ)) → AllPairs Differ (map own_id xs) → found_scope id (drop k xs) ≡ Some s → found_scope id xs ≡ Some s
later id zero xs s once e = e
later id (suc k) [] s once e = e
later id (suc k) (x ∷ xs) s once e =
    let rest = later id k xs s (λ i j q less within. once (suc i) (suc j) q (omega arith) (omega arith)) e in
    let at = has_id id xs s rest in
    ⊎_elim
    (λ t. absurd (once 0 (suc at.0) id (omega arith) (omega (arith, at.1)) (let same : x.0 ≡ id = grind (arith, nat_tests, t) in same ∙ sym (at.2 id))))
    (λ t. rw t rest)
    (cases_Bool (x.0 == id))

ids_are : (ds : List code.Declaration) → map own_id (map declared_scope ds) ≡ map declaration_id ds
ids_are [] = refl
ids_are (d ∷ ds) = ap (λ is. d.id ∷ is) (ids_are ds)

drop_scopes : (k : ℕ) (ds : List code.Declaration) → map declared_scope (drop k ds) ≡ drop k (map declared_scope ds)
drop_scopes zero ds = refl
drop_scopes (suc k) [] = refl
drop_scopes (suc k) (d ∷ ds) = drop_scopes k ds

-- as many as are left are all that are left
left_whole : {A : Type 0} (k : ℕ) (xs : List A) → take (length xs - k) (drop k xs) ≡ drop k xs
left_whole k xs = take_all (length xs - k) (drop k xs) (omega (arith, length-drop k xs))

-- of declarations with different ids, the first one behind some is the only one
pub scope_later : (id k : ℕ) (ds found : List code.Declaration) → AllPairs (λ i j. i ≢ j) (map declaration_id ds) → 0 < length found → head_scope found ≡ found_scope id (map declared_scope (take (length ds - k) (drop k ds)))
    → head_scope found ≡ found_scope id (map declared_scope ds)
scope_later id k ds [] once some e = absurd (omega (arith, some))
scope_later id k ds (d ∷ found) once some e =
    let s = map (λ name. name.now) d.path.value.items in
    let is = left_whole k ds in
    sym (later id k (map declared_scope ds) s (subst (AllPairs Differ) (sym (ids_are ds)) once)
    (ap (found_scope id) (sym (ap (map declared_scope) is ∙ drop_scopes k ds)) ∙ sym e))

-- names one after another
pub segments_are : (names : List (Bor (List ℕ))) → flat_map (λ n. bare_segment n.now) names ≡ flat_map bare_segment (map (λ n. n.now) names)
segments_are names = sym (segments_of (λ n. n.now) names)

-- ---- entries

has_some : {A B : Type 0} (h : A → Option B) (o : Option A) (b : B) → option_map_or h o None ≡ Some b → IsSome o
has_some h None b e = absurd (cc)
has_some h (Some a) b e = refl

-- an entry's item is in its tree
pub contained : (s : State) (e : Entry) (u : Unfolding) → IsDeclared s e → u ≡ unfolding_at s e.place e.krate.0 → IsContained u e.id
contained s e u d is = subst (λ (v : Unfolding). IsContained v e.id) (sym is) (has_some node_name (node_at (unfolding_at s e.place e.krate.0).forest e.id) e.name d.named)

-- its object is that of an item of its place
pub is_object : (units : Units) (texts : Texts) (place : Place) (krate : Crate) (id : Option FileAstId) → found_with units (text_bytes (text_of_place texts place)) (text_places (text_of_place texts place)) place krate id ≡ found_value units texts place krate id
is_object units texts (File file) krate id = refl
is_object units texts (Block block) krate id = refl
