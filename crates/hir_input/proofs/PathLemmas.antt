-- How the text of a path falls into that of its kind and those of its names.
use Rattle.std.proofs.Common.{◌≡◌, ◌≢◌, ℕ, false, eqb, List, [], ◌∷◌, ◌++◌, map, codes, refl, sym, ap, ◌∙◌, arith, append_assoc, replicate, suc, zero, flat_map}
use Rattle.hir_input.proofs.Common.{nat_tests, flat_map-append, flat_map-map, PathKind, Plain, Super, Crate, Abs, DollarCrate, shown_name, Path, by_colons, first_words, shown_more, shown_path}

-- words behind at least one other
pub by_colons-append : (w : List ℕ) (ws vs : List (List ℕ)) → by_colons ((w ∷ ws) ++ vs) ≡ by_colons (w ∷ ws) ++ flat_map (λ v. codes "::" ++ v) vs
by_colons-append w ws vs = ap (λ t. w ++ t) (flat_map-append (λ v. codes "::" ++ v) ws vs) ∙ sym (append_assoc w _ _)

-- names alone
pub by_colons-names : (r : List (List ℕ)) (x : List ℕ) (xs : List (List ℕ)) → by_colons (map (shown_name r) (x ∷ xs)) ≡ shown_name r x ++ shown_more r xs
by_colons-names r x xs = ap (λ t. shown_name r x ++ t) (flat_map-map (λ v. codes "::" ++ v) (shown_name r) xs)

-- a kind with words, and names
after_first : (r : List (List ℕ)) (w : List ℕ) (ws names : List (List ℕ)) → by_colons ((w ∷ ws) ++ map (shown_name r) names) ≡ by_colons (w ∷ ws) ++ shown_more r names
after_first r w ws names = by_colons-append w ws (map (shown_name r) names) ∙ ap (λ t. by_colons (w ∷ ws) ++ t) (flat_map-map (λ v. codes "::" ++ v) (shown_name r) names)

supers_first : (r : List (List ℕ)) (n : ℕ) (names : List (List ℕ)) → by_colons (first_words (Super n) ++ map (shown_name r) names) ≡ by_colons (first_words (Super n)) ++ shown_more r names
supers_first r zero names = after_first r (codes "self") [] names
supers_first r (suc n) names =
    let more : eqb (suc n) 0 ≡ false = grind (arith, nat_tests) in
    rw more (after_first r (codes "super") (replicate n (codes "super")) names)

pub kind_splits : (r : List (List ℕ)) (k : PathKind) (names : List (List ℕ)) → k ≢ Plain → by_colons (first_words k ++ map (shown_name r) names) ≡ by_colons (first_words k) ++ shown_more r names
kind_splits r Plain names h = absurd (h refl)
kind_splits r (Super n) names h = supers_first r n names
kind_splits r Crate names h = after_first r (codes "crate") [] names
kind_splits r Abs names h = after_first r [] [] names
kind_splits r (DollarCrate c) names h = after_first r (codes "$crate") [] names

pub shown_path-plain : (r : List (List ℕ)) (p : Path) → p.kind ≡ Plain → shown_path r p ≡ by_colons (map (shown_name r) p.names)
shown_path-plain r p k = rw k refl

pub shown_path-other : (r : List (List ℕ)) (p : Path) → p.kind ≢ Plain → shown_path r p ≡ by_colons (first_words p.kind) ++ shown_more r p.names
shown_path-other r p h = kind_splits r p.kind p.names h

pub ruleset path_splits = (shown_path-plain, shown_path-other)
