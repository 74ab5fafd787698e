-- Texts that are written one after another, each as a message.
use Rattle.std.proofs.Common.{◌≡◌, ◌<◌, ◌+◌, ℕ, List, [], ◌∷◌, ◌++◌, Option, flat_map, length, map, take, drop, get_or, refl, sym, ap, subst, ◌∙◌, append_assoc, append-nil, take-append-drop}
use Rattle.std.proofs.lemmas.List.{map-append, take_more}
use Rattle.message_stream.proofs.Common.{Appends, Appends-trans, TakesBeginning}
use Rattle.message_stream.proofs.TextBeginnings.{begun_of_more, begun_after}

framed_more : (framed : List ℕ → List ℕ) (done more : List (List ℕ)) → flat_map framed (done ++ more) ≡ flat_map framed done ++ flat_map framed more
framed_more framed [] more = refl
framed_more framed (text ∷ done) more = ap (λ l. framed text ++ l) (framed_more framed done more) ∙ sym (append_assoc (framed text) (flat_map framed done) (flat_map framed more))

module _ {X : Type 0} (framed : List ℕ → List ℕ) (text : X → List ℕ) (xs : List X) (i : ℕ) (x : X) (is : x ≡ get_or xs i x) (within : i < length xs) (bytes : List ℕ) (same : bytes ≡ text x) where
  next : flat_map framed (map text (take (i + 1) xs)) ≡ flat_map framed (map text (take i xs)) ++ framed bytes
  next =
      ap (λ l. flat_map framed (map text l)) (take_more xs i x within ∙ ap (λ e. take i xs ++ e ∷ []) (sym is))
      ∙ ap (flat_map framed) (map-append text (take i xs) (x ∷ []))
      ∙ framed_more framed (map text (take i xs)) (text x ∷ [])
      ∙ ap (λ l. flat_map framed (map text (take i xs)) ++ l) (append-nil (framed (text x)))
      ∙ ap (λ b. flat_map framed (map text (take i xs)) ++ framed b) (sym same)

  rest : flat_map framed (map text (take (i + 1) xs)) ++ flat_map framed (map text (drop (i + 1) xs)) ≡ flat_map framed (map text xs)
  rest =
      sym (framed_more framed (map text (take (i + 1) xs)) (map text (drop (i + 1) xs)))
      ∙ ap (flat_map framed) (sym (map-append text (take (i + 1) xs) (drop (i + 1) xs)))
      ∙ ap (λ l. flat_map framed (map text l)) (take-append-drop (i + 1) xs)

  -- one text more was written
  pub framed_next : (held mid holds : Option (List ℕ)) → Appends held mid (flat_map framed (map text (take i xs))) → Appends mid holds (framed bytes)
      → Appends held holds (flat_map framed (map text (take (i + 1) xs)))
  framed_next held mid holds done more = subst (Appends held holds) (sym next) (Appends-trans held mid holds _ _ done more)

  -- or a beginning of it
  pub framed_cut : (held mid holds : Option (List ℕ)) → Appends held mid (flat_map framed (map text (take i xs))) → TakesBeginning mid holds (framed bytes)
      → TakesBeginning held holds (flat_map framed (map text xs))
  framed_cut held mid holds done cut =
      subst (TakesBeginning held holds) rest
      (begun_of_more held holds _ (flat_map framed (map text (drop (i + 1) xs))) (subst (TakesBeginning held holds) (sym next) (begun_after held mid holds _ _ done cut)))
