-- Paths that are looked for.
use Rattle.std.proofs.Common.{◌≡◌, ℕ, ◌+◌, ◌-◌, ◌&&◌, Bool, true, false, if◌then◌else◌, List, [], ◌∷◌, ◌++◌, length, drop, map, filter, refl, ap, ◌∙◌, arith, nat_eq}
use Rattle.source_session.proofs.Common.{pointwise, pointwise_decides, ends_with, flat_map, and_parts, Decides-eqb, length-append, length-drop, drop-append-add, Unfolding, Declaration, declared_at, DeclarationView, collected_declaration, with_definition, bare_segment, declared_scope, own_scope, scope_at, path_within, is_at}
use Rattle.tree_walk.specs.declared.collector.Declaration as code
use Rattle.source_listing.specs.Sought.{Sought}

-- ---- how paths end

-- what ends a text ends it behind another one too
ends_more : (front text end : List ℕ) → ends_with nat_eq text end ≡ true → ends_with nat_eq (front ++ text) end ≡ true
ends_more front text end e =
    let same : end ≡ drop (length text - length end) text = (pointwise_decides Decides-eqb end (drop (length text - length end) text)).0 e in
    let count : length end ≡ length text - (length text - length end) = ap length same ∙ length-drop (length text - length end) text in
    let all : length (front ++ text) ≡ length front + length text = length-append front text in
    let from : length (front ++ text) - length end ≡ length front + (length text - length end) = omega (arith, count, all) in
    ap (λ i. pointwise nat_eq end (drop i (front ++ text))) from
    ∙ ap (pointwise nat_eq end) (drop-append-add front text (length text - length end))
    ∙ e

-- where the name alone ends as the path that is looked for, it is found
pub name_tells : (u : Unfolding) (i : ℕ) (name : List ℕ) (q : Sought) → (q.is_anywhere && ends_with nat_eq (bare_segment name) q.path) ≡ true → is_at q (path_within u i name) ≡ true
name_tells u i name q h =
    let both = and_parts q.is_anywhere (ends_with nat_eq (bare_segment name) q.path) h in
    rw (both.0) (ends_more (flat_map bare_segment (scope_at u i)) (bare_segment name) q.path both.1)

-- ---- what is around items

scopes_of : (u : Unfolding) (ds : List code.Declaration) → map declared_scope ds ≡ map (λ (d : ℕ × DeclarationView). (d.0, d.1.path)) (map (collected_declaration u) ds)
scopes_of u [] = refl
scopes_of u (d ∷ ds) = ap (λ xs. declared_scope d ∷ xs) (scopes_of u ds)

scopes_are : (ds : List (ℕ × Declaration)) → map (λ (d : ℕ × DeclarationView). (d.0, d.1.path)) (map with_definition ds) ≡ map own_scope ds
scopes_are [] = refl
scopes_are (d ∷ ds) = ap (λ xs. own_scope d ∷ xs) (scopes_are ds)

-- what is collected of a tree tells what is around its items
pub all_scopes : (u : Unfolding) (ds : List code.Declaration) → map (collected_declaration u) ds ≡ map with_definition (declared_at u) → map declared_scope ds ≡ map own_scope (declared_at u)
all_scopes u ds e = scopes_of u ds ∙ ap (map (λ (d : ℕ × DeclarationView). (d.0, d.1.path))) e ∙ scopes_are (declared_at u)

-- ---- lists

one_of : {A B : Type 0} (b : Bool) (f : A → B) (x : A) (xs : List A) (ys : List B) → ys ≡ map f xs → (if b then f x ∷ [] else []) ++ ys ≡ map f (if b then x ∷ xs else xs)
one_of true f x xs ys e = ap (λ l. f x ∷ l) e
one_of false f x xs ys e = e

-- of those that pass one test what is made where they pass another
pub found_all : {A B : Type 0} (p q : A → Bool) (f : A → B) (xs : List A) → flat_map (λ x. if q x then f x ∷ [] else []) (filter p xs) ≡ map f (filter (λ x. p x && q x) xs)
found_all p q f [] = refl
found_all p q f (x ∷ xs) =
    elim (p x) as (λ b. flat_map (λ x. if q x then f x ∷ [] else []) (if b then x ∷ filter p xs else filter p xs) ≡ map f (if b && q x then x ∷ filter (λ x. p x && q x) xs else filter (λ x. p x && q x) xs)) [
      | true ↦ one_of (q x) f x (filter (λ x. p x && q x) xs) (flat_map (λ x. if q x then f x ∷ [] else []) (filter p xs)) (found_all p q f xs)
      | false ↦ found_all p q f xs
    ]
