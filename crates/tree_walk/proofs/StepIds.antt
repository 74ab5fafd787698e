-- The steps of a walk by the ids of items.
use Rattle.std.proofs.Common.{◌≡◌, ℕ, List, [], ◌∷◌, ◌++◌, All, get_or, map, Option, Some, None, refl, ap, sym, subst, ◌∙◌, append_assoc, flat_map}
use Rattle.std.proofs.lemmas.List.{get_or-map, length-map, map-append, Elements.All-contains_itself}
use Rattle.std.proofs.lemmas.Simd.{map-map}
use Rattle.std.specs.{Prelude.is_some, Prelude.IsSome, Option.option_map_or}
use Rattle.item_tree.specs.{Layout.node_at, Node.Node, Node.leaf, Node.parent, Node.Forest, Node.empty, Node.more, Node.nodes, Node.Unfolding, Shown.IsContained, Shown.StandFor}
use Rattle.item_tree.specs.{Reach.all_ids, Reach.child_ids, Reach.ids_from, Reach.top_ids, Walk.of_id, Walk.children}
use Rattle.item_tree.proofs.Walking.{of_id_is, each_walked_once, children_of, children_contained, leaf_childless, leaf_counts, no_ids, parent_counts, tops_stand}
use Rattle.tree_walk.specs.Rows.{Around, top}
use Rattle.tree_walk.specs.Inner.Steps.{around_below, node_steps, steps_in, steps, steps_at}

module _ (u : Unfolding) where
  -- the steps of ids that stand for a forest
  forest_steps : (a : Around) (is : List ℕ) (f : Forest) → StandFor u is f → flat_map (steps_at u a) is ≡ steps_in u a is f
  forest_steps a [] empty e = refl
  forest_steps a [] (more n f) e = refl
  forest_steps a (i ∷ is) empty e = absurd (cc)
  forest_steps a (i ∷ is) (more n f) e =
      let first : node_at u.forest i ≡ Some n = cc in
      let others : map (node_at u.forest) is ≡ map Some (nodes f) = cc in
      rw (of_id_is u [] (node_steps u a i) i n first, forest_steps a is f others) refl

  -- of an item: its own, and those of its children
  node_step : (a : Around) (i : ℕ) (n : Node) → node_at u.forest i ≡ Some n → node_steps u a i n ≡ (i, a) ∷ steps_in u (around_below a n) (child_ids u i) (children n)
  node_step a i (leaf h l) e = ap (λ ss. (i, a) ∷ ss) (sym (ap (λ js. steps_in u (around_below a (leaf h l)) js empty) (no_ids u (child_ids u i) (children_of u i (leaf h l) e))))
  node_step a i (parent h t f) e = refl

  one_step : (a b : Around) (i : ℕ) (o : Option Node) → node_at u.forest i ≡ o → b ∷ [] ≡ option_map_or (λ n. around_below a n ∷ []) o []
      → option_map_or (node_steps u a i) o [] ≡ (i, a) ∷ flat_map (steps_at u b) (child_ids u i)
  one_step a b i None e d = absurd (cc)
  one_step a b i (Some n) e d =
      let d : b ≡ around_below a n = cc in
      node_step a i n e ∙ ap (λ ss. (i, a) ∷ ss) (sym (forest_steps (around_below a n) (child_ids u i) (children n) (children_of u i n e)))
      ∙ ap (λ c. (i, a) ∷ flat_map (steps_at u c) (child_ids u i)) (sym d)

  -- its own, and then those of its children, are its steps
  pub step_adds : (a b : Around) (i : ℕ) (is : List ℕ) (before mid after : List (ℕ × Around)) → b ∷ [] ≡ of_id u [] (λ n. around_below a n ∷ []) i → is ≡ child_ids u i
      → mid ≡ before ++ (i, a) ∷ [] → after ≡ mid ++ flat_map (steps_at u b) is → after ≡ before ++ steps_at u a i
  step_adds a b i is before mid after d e f g =
      rw (g, f, e) (append_assoc before ((i, a) ∷ []) (flat_map (steps_at u b) (child_ids u i)) ∙ ap (λ (ss : List (ℕ × Around)). before ++ ss) (sym (one_step a b i (node_at u.forest i) refl d)))

  lone_step : (a : Around) (i : ℕ) (o : Option Node) → node_at u.forest i ≡ o → IsSome o → child_ids u i ≡ [] → option_map_or (node_steps u a i) o [] ≡ (i, a) ∷ []
  lone_step a i None e s none = absurd (cc)
  lone_step a i (Some n) e s none =
      node_step a i n e ∙ ap (λ ss. (i, a) ∷ ss) (sym (forest_steps (around_below a n) (child_ids u i) (children n) (children_of u i n e)) ∙ ap (flat_map (steps_at u (around_below a n))) none)

  -- an item in which none stands has one step
  pub alone_adds : (a : Around) (i : ℕ) (is : List ℕ) (before after : List (ℕ × Around)) → IsContained u i → is ≡ child_ids u i → is ≡ [] → after ≡ before ++ (i, a) ∷ [] → after ≡ before ++ steps_at u a i
  alone_adds a i is before after c e none f = f ∙ ap (λ (ss : List (ℕ × Around)). before ++ ss) (sym (lone_step a i (node_at u.forest i) refl c (sym e ∙ none)))

  pub top_steps : (a : Around) (is : List ℕ) → a ≡ top u → is ≡ top_ids u → StandFor u is u.forest → flat_map (steps_at u a) is ≡ steps u
  top_steps a is t i e = forest_steps a is u.forest e ∙ (λ k. steps_in u (t k) (i k) u.forest)

  -- ---- the ids alone

  mutual
    node_ids_are : (n : Node) (a : Around) (i : ℕ) → node_at u.forest i ≡ Some n → map (λ s. s.0) (node_steps u a i n) ≡ ids_from u i
    node_ids_are (leaf h l) a i e =
        sym ((each_walked_once u).below i (ap is_some e) ∙ ap (λ js. i ∷ flat_map (ids_from u) js) (no_ids u (child_ids u i) (children_of u i (leaf h l) e)))
    node_ids_are (parent h t f) a i e =
        ap (λ js. i ∷ js) (forest_ids_are f (around_below a (parent h t f)) (child_ids u i) (children_of u i (parent h t f) e)) ∙ sym ((each_walked_once u).below i (ap is_some e))

    forest_ids_are : (f : Forest) (a : Around) (is : List ℕ) → map (node_at u.forest) is ≡ map Some (nodes f) → map (λ s. s.0) (steps_in u a is f) ≡ flat_map (ids_from u) is
    forest_ids_are empty a [] e = refl
    forest_ids_are empty a (i ∷ is) e = absurd (cc)
    forest_ids_are (more n f) a [] e = absurd (cc)
    forest_ids_are (more n f) a (i ∷ is) e =
        let first : node_at u.forest i ≡ Some n = cc in
        let others : map (node_at u.forest) is ≡ map Some (nodes f) = cc in
        map-append (λ s. s.0) (node_steps u a i n) (steps_in u a is f) ∙ rw (node_ids_are n a i first, forest_ids_are f a is others) refl

  step_ids : map (λ s. s.0) (steps u) ≡ all_ids u
  step_ids = forest_ids_are u.forest (top u) (top_ids u) (tops_stand u) ∙ sym (each_walked_once u).top

  module _ {S : Type 0} (view : S → ℕ × Around) (ss : List S) (h : map view ss ≡ steps u) where
    pub ids_walked : map (λ s. (view s).0) ss ≡ all_ids u
    ids_walked = sym (map-map (λ s. s.0) view ss) ∙ ap (map (λ s. s.0)) h ∙ step_ids

  pub ids_all_contained : All (IsContained u) (all_ids u)
  ids_all_contained = λ k d h. ((each_walked_once u).all (get_or (all_ids u) k d)).1 (All-contains_itself (all_ids u) k d h)

-- what holds of all ids holds of the id of each
pub all_seen : {S : Type 0} (P : ℕ → Type 0) (id : S → ℕ) (ss : List S) → All P (map id ss) → All (λ s. P (id s)) ss
all_seen P id ss all = λ k d h. subst P (get_or-map id ss k d (id d) h) (all k (id d) (rw (length-map ss id) h))

-- how many items there are from an item and its children on down
pub ruleset child_counts = (leaf_counts, parent_counts, children_contained, leaf_childless)
