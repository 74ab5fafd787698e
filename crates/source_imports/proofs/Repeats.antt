-- Imports by the ids of items, and repeats of one more.
use Rattle.source_imports.proofs.Common.{◌≡◌, ℕ, Bool, true, false, if◌then◌else◌, ◌+◌, ◌<◌, length, take, List, [], ◌∷◌, ◌++◌, map, Option, Some, None, refl, ap, sym, ◌∙◌, append_assoc, append-nil, option_map, slice_index_or, flat_map, map-append, take_more, option_map_or, FileAstId, children, children_at, place_of, leaf_map, node_at, vis_at, Leaf, plain, use_item, Node, leaf, parent, Forest, empty, more, nodes, node_ast, Unfolding, Lent, lent_leaf, lent_parent, IsLent, StandFor, flat_map_of_id, leaf_of_id, parent_of_id, Import, imports, Tree, FilePlaces, Trees, use_trees_at, tree_spots, import_spot, Named, named_import, leaf_named, node_named, forest_named, first_alike, Repeat, repeat_if_any, repeats, own_named, lent_named, own_named_at, named_at}
use Rattle.source_imports.specs.ImportCfgs.{ImportChoice, is_use_listed}

module _ (text : List ℕ) (places : FilePlaces) (reserved : List (List ℕ)) (c : ImportChoice) (around : Option FileAstId) where
  named-leaf : {V W : Type 0} (f : V → W) (at : FileAstId) (l : Leaf V) → leaf_named text places reserved c around at (leaf_map f l) ≡ leaf_named text places reserved c around at l
  named-leaf f at (plain k n v) = refl
  named-leaf f at _ = refl

  same_ast : (o : Option Node) (n : Node) (at : FileAstId) → o ≡ Some n → option_map node_ast o ≡ Some at → node_ast n ≡ at
  same_ast o n at e f = let g : Some (node_ast n) ≡ Some at = sym (ap (option_map node_ast) e) ∙ f in cc

  -- what is lent of an item has its imports
  pub own_lent : (u : Unfolding) (i : ℕ) (x : Lent) (at : FileAstId) → IsLent u i x → option_map node_ast (node_at u.forest i) ≡ Some at
      → own_named_at text places reserved c u around i ≡ lent_named text places reserved c around at x
  own_lent u i (lent_leaf a l) at p e =
      leaf_of_id u [] (own_named text places reserved c around) i a l p ∙ ap (λ a. leaf_named text places reserved c around a p.item) (same_ast (node_at u.forest i) (leaf p.head p.item) at p.found e)
      ∙ sym (named-leaf Some at p.item) ∙ ap (leaf_named text places reserved c around at) (sym p.visible) ∙ named-leaf (vis_at u.forest) at l
  own_lent u i (lent_parent a t is) at p e = parent_of_id u [] (own_named text places reserved c around) i a t is p

  forest_is : (f : Forest) → flat_map (node_named text places reserved c around) (nodes f) ≡ forest_named text places reserved c around f
  forest_is empty = refl
  forest_is (more n f) = ap (λ xs. node_named text places reserved c around n ++ xs) (forest_is f)

  -- the imports of ids that stand for a forest
  pub ids_named : (u : Unfolding) (is : List ℕ) (f : Forest) → StandFor u is f → flat_map (named_at text places reserved c u around) is ≡ forest_named text places reserved c around f
  ids_named u is f e = flat_map_of_id u (node_named text places reserved c around) is (nodes f) e ∙ forest_is f

  node_is : (n : Node) → node_named text places reserved c around n ≡ own_named text places reserved c around n ++ forest_named text places reserved c (Some (node_ast n)) (children n)
  node_is (leaf h l) = sym (append-nil (leaf_named text places reserved c around (node_ast (leaf h l)) l))
  node_is (parent h t f) = refl

one_named : (text : List ℕ) (places : FilePlaces) (reserved : List (List ℕ)) (c : ImportChoice) (around : Option FileAstId) (u : Unfolding) (is : List ℕ) (o : Option Node) (at : FileAstId) → option_map node_ast o ≡ Some at → StandFor u is (option_map_or children o empty)
    → option_map_or (node_named text places reserved c around) o [] ≡ option_map_or (own_named text places reserved c around) o [] ++ flat_map (named_at text places reserved c u (Some at)) is
one_named text places reserved c around u is None at e f = absurd (cc)
one_named text places reserved c around u is (Some n) at e f =
    let e : node_ast n ≡ at = cc in
    node_is text places reserved c around n ∙ ap (λ a. own_named text places reserved c around n ++ forest_named text places reserved c (Some a) (children n)) e
    ∙ ap (λ xs. own_named text places reserved c around n ++ xs) (sym (ids_named text places reserved c (Some at) u is (children n) f))

-- what is lent of a use has no imports where it lists none
unlisted_leaf : (text : List ℕ) (places : FilePlaces) (reserved : List (List ℕ)) (c : ImportChoice) (around : Option FileAstId) (at : FileAstId) (v : ℕ) (t : Tree) (b : Bool) → is_use_listed c at ≡ b → b ≡ false → leaf_named text places reserved c around at (use_item v t) ≡ []
unlisted_leaf text places reserved c around at v t b e f = rw (e ∙ f) refl

pub own_unlisted : (text : List ℕ) (places : FilePlaces) (reserved : List (List ℕ)) (c : ImportChoice) (around : Option FileAstId) (u : Unfolding) (i : ℕ) (a at : FileAstId) (v : ℕ) (t : Tree) (before : List Named)
    → IsLent u i (lent_leaf a (use_item v t)) → option_map node_ast (node_at u.forest i) ≡ Some at → is_use_listed c at ≡ false → before ≡ before ++ own_named_at text places reserved c u around i
own_unlisted text places reserved c around u i a at v t before p q l =
    sym (append-nil before) ∙ ap (λ z. before ++ z) (sym (own_lent text places reserved c around u i (lent_leaf a (use_item v t)) at p q ∙ unlisted_leaf text places reserved c around at v t false l refl))

-- the imports of a use, by where its use trees stand
pub own_use : (text text' : List ℕ) (places : FilePlaces) (reserved : List (List ℕ)) (c : ImportChoice) (around : Option FileAstId) (u : Unfolding) (i : ℕ) (a at : FileAstId) (v : ℕ) (t : Tree) (trees : Option Trees) (xs : List Import) (before after : List Named)
    → IsLent u i (lent_leaf a (use_item v t)) → option_map node_ast (node_at u.forest i) ≡ Some at → is_use_listed c at ≡ true → text' ≡ text → trees ≡ option_map (use_trees_at places.use_trees) (place_of at places.items) → xs ≡ imports t
    → after ≡ before ++ map (named_import reserved around at (tree_spots text' trees)) xs → after ≡ before ++ own_named_at text places reserved c u around i
own_use text text' places reserved c around u i a at v t trees xs before after p q l e f x g =
    g ∙ ap (λ z. before ++ map (named_import reserved around at (tree_spots z trees)) xs) e ∙ ap (λ z. before ++ map (named_import reserved around at (tree_spots text z)) xs) f
    ∙ ap (λ z. before ++ map (named_import reserved around at (import_spot text places at)) z) x
    ∙ ap (λ (b : Bool). before ++ (if b then map (named_import reserved around at (import_spot text places at)) (imports t) else [])) (sym l)
    ∙ ap (λ z. before ++ z) (sym (own_lent text places reserved c around u i (lent_leaf a (use_item v t)) at p q))

-- the imports of an item itself, and then those of its children, are its imports
pub named_adds : (text text' : List ℕ) (places places' : FilePlaces) (reserved : List (List ℕ)) (c : ImportChoice) (around : Option FileAstId) (u : Unfolding) (i : ℕ) (is : List ℕ) (at : FileAstId) (before mid after : List Named)
    → text' ≡ text → places' ≡ places → option_map node_ast (node_at u.forest i) ≡ Some at → StandFor u is (children_at u i)
    → mid ≡ before ++ own_named_at text places reserved c u around i → after ≡ mid ++ flat_map (named_at text' places' reserved c u (Some at)) is → after ≡ before ++ named_at text places reserved c u around i
named_adds text text' places places' reserved c around u i is at before mid after t p e s f g =
    g ∙ ap (λ z. mid ++ flat_map (named_at z places' reserved c u (Some at)) is) t ∙ ap (λ z. mid ++ flat_map (named_at text z reserved c u (Some at)) is) p
    ∙ ap (λ z. z ++ flat_map (named_at text places reserved c u (Some at)) is) f
    ∙ append_assoc before (own_named_at text places reserved c u around i) (flat_map (named_at text places reserved c u (Some at)) is) ∙ ap (λ (xs : List Named). before ++ xs) (sym (one_named text places reserved c around u is (node_at u.forest i) at e s))

-- ---- repeats

-- those of one more import
pub one_more_repeat : (c : ImportChoice) (before xs : List Named) (x : Named) → repeats c before (xs ++ x ∷ []) ≡ repeats c before xs ++ repeat_if_any x (first_alike c x (before ++ xs))
one_more_repeat c before [] x = append-nil (repeat_if_any x (first_alike c x before)) ∙ ap (λ b. repeat_if_any x (first_alike c x b)) (sym (append-nil before))
one_more_repeat c before (y ∷ xs) x =
    let mine = repeat_if_any y (first_alike c y before) in
    let rest = repeats c (before ++ y ∷ []) xs in
    ap (λ rs. mine ++ rs) (one_more_repeat c (before ++ y ∷ []) xs x ∙ ap (λ b. rest ++ repeat_if_any x (first_alike c x b)) (append_assoc before (y ∷ []) xs))
    ∙ sym (append_assoc mine rest (repeat_if_any x (first_alike c x (before ++ y ∷ xs))))

-- the same of one more of a list
pub repeats_of_more : {A : Type 0} (f : A → Named) (c : ImportChoice) (xs : List A) (i : ℕ) (x : A) (before after : List Repeat) → i < length xs → slice_index_or xs i x ≡ x
    → before ≡ repeats c [] (map f (take i xs))
    → after ≡ before ++ repeat_if_any (f x) (first_alike c (f x) (map f (take i xs)))
    → after ≡ repeats c [] (map f (take (i + 1) xs))
repeats_of_more f c xs i x before after l g e n =
    let more : take (i + 1) xs ≡ take i xs ++ x ∷ [] = take_more xs i x l ∙ ap (λ y. take i xs ++ y ∷ []) g in
    n ∙ ap (λ b. b ++ repeat_if_any (f x) (first_alike c (f x) (map f (take i xs)))) e
    ∙ sym (one_more_repeat c [] (map f (take i xs)) (f x))
    ∙ ap (repeats c []) (sym (map-append f (take i xs) (x ∷ [])) ∙ ap (map f) (sym more))

-- one more import is seen
pub seen_more : {A B C : Type 0} (f : A → C) (g : B → C) (before after : List A) (b : A) (xs : List B) (i : ℕ) (x : B) → i < length xs → slice_index_or xs i x ≡ x → f b ≡ g x
    → map f before ≡ map g (take i xs) → after ≡ before ++ b ∷ [] → map f after ≡ map g (take (i + 1) xs)
seen_more f g before after b xs i x l e is seen n =
    let more : take (i + 1) xs ≡ take i xs ++ x ∷ [] = take_more xs i x l ∙ ap (λ y. take i xs ++ y ∷ []) e in
    ap (map f) n ∙ map-append f before (b ∷ []) ∙ (λ j. seen j ++ is j ∷ []) ∙ sym (map-append g (take i xs) (x ∷ [])) ∙ ap (map g) (sym more)
