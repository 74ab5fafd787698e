-- Tags that are pushed part by part.
use Rattle.source_tags.proofs.Common.{List, append_assoc, codes, flat_map, map, ℕ, ◌++◌, ◌∷◌, ◌≡◌}
use Rattle.source_listing.proofs.PushedTexts.{segments_of}
use Rattle.source_listing.specs.Paths.{bare_segment}
use Rattle.source_tags.specs.TagFields.{scope_field}

-- a tag, pushed part by part
pub tag_pushed : (o name path place fields o1 o2 o3 o4 o5 o6 o7 : List ℕ) → o1 ≡ o ++ name → o2 ≡ o1 ++ codes "\t" → o3 ≡ o2 ++ path → o4 ≡ o3 ++ codes "\t" → o5 ≡ o4 ++ place → o6 ≡ o5 ++ fields → o7 ≡ o6 ++ codes "\n"
    → o7 ≡ o ++ (name ++ codes "\t" ++ path ++ codes "\t" ++ place ++ fields ++ codes "\n")
tag_pushed o name path place fields o1 o2 o3 o4 o5 o6 o7 a b c d e f g = rw (g, f, e, d, c, b, a) (simp append_assoc)

-- what a tag stands in, pushed one after another
pub scope_pushed : {A : Type 0} (f : A → List ℕ) (xs : List A) (first : A) (rest : List A) (word o o1 o2 o3 o4 o5 : List ℕ) → xs ≡ first ∷ rest → o1 ≡ o ++ codes "\t" → o2 ≡ o1 ++ word → o3 ≡ o2 ++ codes ":" → o4 ≡ o3 ++ f first → o5 ≡ o4 ++ flat_map (λ x. bare_segment (f x)) rest
    → o5 ≡ o ++ scope_field word (map f xs)
scope_pushed f xs first rest word o o1 o2 o3 o4 o5 e a b c d g = rw (e, g, d, c, b, a, ← segments_of f rest) (simp append_assoc)
