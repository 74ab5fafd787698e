-- One more of a list is told.
use Rattle.std.proofs.Common.{◌≡◌, ℕ, ◌+◌, ◌<◌, length, List, [], ◌∷◌, ◌++◌, map, take, slice_index_or, ap, sym, ◌∙◌}
use Rattle.std.proofs.lemmas.List.{append_assoc, map-append, take_more}

pub one_more : {A B C D : Type 0} (view : A → D) (each : C → D) (of : B → C) (old before after : List A) (a : A) (xs : List B) (i : ℕ) (x : B) → i < length xs → slice_index_or xs i x ≡ x → view a ≡ each (of x)
    → map view before ≡ map view old ++ map each (map of (take i xs)) → after ≡ before ++ a ∷ [] → map view after ≡ map view old ++ map each (map of (take (i + 1) xs))
one_more view each of old before after a xs i x l is e told pushed =
    let more : take (i + 1) xs ≡ take i xs ++ x ∷ [] = take_more xs i x l ∙ ap (λ y. take i xs ++ y ∷ []) is in
    let all = ap (λ ys. map each (map of ys)) more ∙ ap (map each) (map-append of (take i xs) (x ∷ [])) ∙ map-append each (map of (take i xs)) (of x ∷ []) in
    ap (map view) pushed ∙ map-append view before (a ∷ []) ∙ (λ j. told j ++ e j ∷ []) ∙ append_assoc (map view old) (map each (map of (take i xs))) (each (of x) ∷ []) ∙ ap (λ ys. map view old ++ ys) (sym all)
