-- One more text is read.
use Rattle.std.proofs.Common.{◌≡◌, ◌<◌, ◌+◌, ℕ, List, [], ◌∷◌, ◌++◌, length, map, take, get_or, ap, ◌∙◌, sym, subst}
use Rattle.std.proofs.lemmas.List.{map_more}
use Rattle.itemtree_commands.proofs.Common.{EditionYear, SyntaxView}
use Rattle.itemtree_commands.specs.RequestTexts.{IsReadOf, AreRead}

one_more : (edition : EditionYear) (texts : List (List ℕ)) (ss : List SyntaxView) (text : List ℕ) (s : SyntaxView) → AreRead edition texts ss → IsReadOf edition text s → AreRead edition (texts ++ text ∷ []) (ss ++ s ∷ [])
one_more edition [] [] text s h r = (r, tt)
one_more edition [] (t ∷ ss) text s h r = absurd h
one_more edition (u ∷ texts) [] text s h r = absurd h
one_more edition (u ∷ texts) (t ∷ ss) text s h r = (h.0, one_more edition texts ss text s h.1 r)

-- a turn of a loop over texts
pub one_more_turn : {A : Type 0} (edition : EditionYear) (f : A → List ℕ) (xs : List A) (i : ℕ) (x : A) (ss : List SyntaxView) (s : SyntaxView) → i < length xs → x ≡ get_or xs i x → AreRead edition (map f (take i xs)) ss → IsReadOf edition (f x) s
    → AreRead edition (map f (take (i + 1) xs)) (ss ++ s ∷ [])
one_more_turn edition f xs i x ss s within is h r =
    subst (λ texts. AreRead edition texts (ss ++ s ∷ [])) (ap (λ y. map f (take i xs) ++ f y ∷ []) is ∙ sym (map_more f xs i x within)) (one_more edition (map f (take i xs)) ss (f x) s h r)
