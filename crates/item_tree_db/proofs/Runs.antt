-- Lists of edits, made one after another.
use Rattle.std.proofs.Common.{◌≡◌, ℕ, ◌+◌, ◌-◌, ◌<◌, List, [], ◌∷◌, ◌++◌, length, map, take, drop, get_or, slice_get, Some, refl, sym, ap, subst, ◌∙◌, arith}
use Rattle.item_tree_db.proofs.Common.{AllByRecursion, length-map, length-drop, get_or-drop, get_or-map, drop-drop, take-map, take_all, map_more, All-from_recursion, slice_get_read, State, EditView, set, remove, set_cfg, IsAfter, NamesKnown}

-- x stands at n, with ys behind it
pub record Popped {A B : Type 0} (f : A → B) (n : ℕ) (xs : List A) (x : A) (ys : List A) : Type 0 where
  pub within : n < length xs
  pub is : get_or xs n x ≡ x
  pub done : take (n + 1) (map f xs) ≡ take n (map f xs) ++ f x ∷ []
  pub at : slice_get xs n ≡ Some x
  pub rest : drop (n + 1) xs ≡ ys

module _ {A B : Type 0} (f : A → B) where
  pub popped : (n : ℕ) (xs : List A) (x : A) (ys : List A) → drop n xs ≡ x ∷ ys → Popped f n xs x ys
  popped n xs x ys e =
      let long : length xs - n ≡ length (x ∷ ys) = sym (length-drop n xs) ∙ ap length e in
      let here : n + 0 ≡ n = omega arith in
      let within : n < length xs = omega arith in
      let is : get_or xs n x ≡ x = ap (λ (m : ℕ). get_or xs m x) (sym here) ∙ sym (get_or-drop n xs 0 x) ∙ ap (λ (l : List A). get_or l 0 x) e in
      record {
        within = within;
        is = is;
        done = take-map f (n + 1) xs ∙ map_more f xs n x within ∙ (λ j. sym (take-map f n xs) j ++ f (is j) ∷ []);
        at = slice_get_read xs (length xs) n x refl within (sym is);
        rest = sym (drop-drop 1 n xs) ∙ ap (drop 1) e;
      }

  -- no edit is left
  pub take_whole : (n : ℕ) (xs : List A) → drop n xs ≡ [] → take n (map f xs) ≡ map f xs
  take_whole n xs e = let long : length xs - n ≡ 0 = sym (length-drop n xs) ∙ ap length e in take_all n (map f xs) (rw (length-map xs f) (omega arith))

  -- what holds of all
  pub holds_at : (P : B → Type 0) (n : ℕ) (xs : List A) (x : A) (ys : List A) → drop n xs ≡ x ∷ ys → AllByRecursion P (map f xs) → P (f x)
  holds_at P n xs x ys e h = let p = popped n xs x ys e in subst P (get_or-map f xs n x (f x) p.within ∙ ap f p.is) (All-from_recursion P (map f xs) h n (f x) (rw (length-map xs f) p.within))

-- an edit names a crate that is known still
pub known_still : (s u : State) (es : List EditView) (e : EditView) → IsAfter s es u → NamesKnown s e → NamesKnown u e
known_still s u es (set place syntax) after h = tt
known_still s u es (remove place) after h = tt
known_still s u es (set_cfg k options) after h = rw after.count h
