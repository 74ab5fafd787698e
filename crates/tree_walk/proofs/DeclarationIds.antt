-- The declarations of a tree: those of its steps, their ids, and what they say.
use Rattle.std.proofs.Common.{◌≡◌, ◌≢◌, ℕ, false, List, [], ◌∷◌, ◌++◌, map, filter, get_or, Option, Some, None, refl, ap, sym, ◌∙◌, subst, append-nil}
use Rattle.std.specs.{Prelude.is_some, List.flat_map, List.AllPairs}
use Rattle.std.proofs.lemmas.Grind.{flat_map-append}
use Rattle.std.proofs.lemmas.List.{map-append, Elements.All-contains_itself, Elements.All-filter, Elements.filter-append, Kept.AllPairs-filter}
use Rattle.std.proofs.lemmas.Simd.{map-map}
use Rattle.item_tree.specs.{declared.visibility.RawVisibility.RawVisibility, Layout.node_at, Walk.AreContained, Reach.top_ids, Reach.child_ids, Reach.ids_from, Reach.all_ids, Shown.IsContained}
use Rattle.item_tree.specs.Node.{Head, Trunk, inline, extern_block, Node, leaf, parent, Forest, empty, more, nodes, Unfolding}
use Rattle.item_tree.proofs.Walking.{of_id_is, each_walked_once, children_of, no_ids, tops_stand}
use Rattle.tree_walk.specs.declared.collector.Declaration as code
use Rattle.tree_walk.specs.Declarations.{Declared, node_declares, Declaration, declaration_of, path_below, node_declarations, declarations_in, declarations, with_id, node_declared, declared_in, declared_at}
use Rattle.tree_walk.specs.DeclarationView.{view_of, declaration_view, declaration_id, with_definition, collected_declaration, is_declaring}
use Rattle.tree_walk.specs.Rows.{Around, top}
use Rattle.tree_walk.specs.Inner.{Declared.own_from, Declared.own_in, Steps.around_below, Steps.node_steps, Steps.steps_in, Steps.steps}

-- ---- the declarations of a tree, step by step

module _ (u : Unfolding) where
  -- of a step
  abbrev own : ℕ × Around → List (ℕ × Declaration)
  own s = own_from u s.1.scope s.0

  below_path : (t : Trunk RawVisibility) (h : Head) (f : Forest) (a : Around) → (around_below a (parent h t f)).scope ≡ path_below a.scope t
  below_path (inline name v) h f a = refl
  below_path extern_block h f a = refl

  mutual
    node_own : (n : Node) (a : Around) (i : ℕ) → node_at u.forest i ≡ Some n → flat_map own (node_steps u a i n) ≡ node_declared u a.scope i n
    node_own (leaf h l) a i e = rw e (append-nil _)
    node_own (parent h t f) a i e =
        rw (e, forest_own f (around_below a (parent h t f)) (child_ids u i) (children_of u i (parent h t f) e), below_path t h f a) refl

    forest_own : (f : Forest) (a : Around) (is : List ℕ) → map (node_at u.forest) is ≡ map Some (nodes f) → flat_map own (steps_in u a is f) ≡ declared_in u a.scope is f
    forest_own empty a [] e = refl
    forest_own empty a (i ∷ is) e = absurd (cc)
    forest_own (more n f) a [] e = absurd (cc)
    forest_own (more n f) a (i ∷ is) e =
        let first : node_at u.forest i ≡ Some n = cc in
        let others : map (node_at u.forest) is ≡ map Some (nodes f) = cc in
        flat_map-append own (node_steps u a i n) (steps_in u a is f) ∙ rw (node_own n a i first, forest_own f a is others) refl

-- as what is collected of them
map-flat_map : {A B C : Type 0} (f : B → C) (g : A → List B) (xs : List A) → map f (flat_map g xs) ≡ flat_map (λ x. map f (g x)) xs
map-flat_map f g [] = refl
map-flat_map f g (x ∷ xs) = map-append f (g x) (flat_map g xs) ∙ ap (λ ys. map f (g x) ++ ys) (map-flat_map f g xs)

pub all_defined : (u : Unfolding) (ss : List (ℕ × Around)) → ss ≡ steps u → flat_map (own_in u) ss ≡ map with_definition (declared_at u)
all_defined u ss e = ap (flat_map (own_in u)) e ∙ sym (map-flat_map with_definition (own u) (steps u)) ∙ ap (map with_definition) (forest_own u u.forest (top u) (top_ids u) (tops_stand u))

-- ---- the ids alone, and the declarations alone

module _ (u : Unfolding) where
  record AreThose (is : List ℕ) (all : List Declaration) (ds : List (ℕ × Declaration)) : Type 0 where
    pub ids : map (λ d. d.0) ds ≡ filter (is_declaring u) is
    pub declarations : map (λ d. d.1) ds ≡ all

  those_append : (is js : List ℕ) (all others : List Declaration) (ds es : List (ℕ × Declaration)) → AreThose is all ds → AreThose js others es → AreThose (is ++ js) (all ++ others) (ds ++ es)
  those_append is js all others ds es g h = record {
    ids = map-append (λ d. d.0) ds es ∙ (λ k. g.ids k ++ h.ids k) ∙ sym (filter-append (is_declaring u) is js);
    declarations = map-append (λ d. d.1) ds es ∙ (λ k. g.declarations k ++ h.declarations k);
  }

  one_by : (path : List (List ℕ)) (i : ℕ) (n : Node) (o : Option Declared) → is_declaring u i ≡ is_some o → AreThose (i ∷ []) (declaration_of path n o) (with_id i (declaration_of path n o))
  one_by path i n None e = record { ids = rw e refl; declarations = refl }
  one_by path i n (Some d) e = record { ids = rw e refl; declarations = refl }

  one : (path : List (List ℕ)) (i : ℕ) (n : Node) → node_at u.forest i ≡ Some n → AreThose (i ∷ []) (declaration_of path n (node_declares n)) (with_id i (declaration_of path n (node_declares n)))
  one path i n e = one_by path i n (node_declares n) (of_id_is u false (λ n. is_some (node_declares n)) i n e)

  mutual
    node_those : (n : Node) (path : List (List ℕ)) (i : ℕ) → node_at u.forest i ≡ Some n → AreThose (ids_from u i) (node_declarations path n) (node_declared u path i n)
    node_those (leaf h l) path i e =
        let ids : ids_from u i ≡ i ∷ [] = (each_walked_once u).below i (ap is_some e) ∙ ap (λ js. i ∷ flat_map (ids_from u) js) (no_ids u (child_ids u i) (children_of u i (leaf h l) e)) in
        subst (λ js. AreThose js (node_declarations path (leaf h l)) (node_declared u path i (leaf h l))) (sym ids) (one path i (leaf h l) e)
    node_those (parent h t f) path i e =
        let n : Node = parent h t f in
        let below = forest_those f (path_below path t) (child_ids u i) (children_of u i n e) in
        subst (λ js. AreThose js (node_declarations path n) (node_declared u path i n)) (sym ((each_walked_once u).below i (ap is_some e)))
        (those_append (i ∷ []) (flat_map (ids_from u) (child_ids u i)) (declaration_of path n (node_declares n)) (declarations_in (path_below path t) f) _ _ (one path i n e) below)

    forest_those : (f : Forest) (path : List (List ℕ)) (is : List ℕ) → map (node_at u.forest) is ≡ map Some (nodes f) → AreThose (flat_map (ids_from u) is) (declarations_in path f) (declared_in u path is f)
    forest_those empty path [] e = record { ids = refl; declarations = refl }
    forest_those empty path (i ∷ is) e = absurd (cc)
    forest_those (more n f) path [] e = absurd (cc)
    forest_those (more n f) path (i ∷ is) e =
        let first : node_at u.forest i ≡ Some n = cc in
        let others : map (node_at u.forest) is ≡ map Some (nodes f) = cc in
        those_append (ids_from u i) (flat_map (ids_from u) is) (node_declarations path n) (declarations_in path f) _ _ (node_those n path i first) (forest_those f path is others)

  all_those : AreThose (flat_map (ids_from u) (top_ids u)) (declarations u.forest) (declared_at u)
  all_those = forest_those u.forest [] (top_ids u) (tops_stand u)

  declared_ids : map (λ d. d.0) (declared_at u) ≡ filter (is_declaring u) (all_ids u)
  declared_ids = all_those.ids ∙ ap (filter (is_declaring u)) (sym (each_walked_once u).top)

  declared_alone : map (λ d. d.1) (declared_at u) ≡ declarations u.forest
  declared_alone = all_those.declarations

  -- ---- and of what is collected

  module _ (ds : List code.Declaration) (h : map (collected_declaration u) ds ≡ map with_definition (declared_at u)) where
    pub views_alone : map (declaration_view u) ds ≡ map view_of (declarations u.forest)
    views_alone = sym (map-map _ _ ds) ∙ ap (map (λ d. d.1)) h ∙ map-map _ _ (declared_at u) ∙ sym (map-map view_of (λ d. d.1) (declared_at u)) ∙ ap (map view_of) declared_alone

    pub ids_alone : map declaration_id ds ≡ filter (is_declaring u) (all_ids u)
    ids_alone = sym (map-map _ _ ds) ∙ ap (map (λ d. d.0)) h ∙ map-map _ _ (declared_at u) ∙ declared_ids

  pub declaring_once : AllPairs (λ i j. i ≢ j) (filter (is_declaring u) (all_ids u))
  declaring_once = AllPairs-filter (λ i j. i ≢ j) (is_declaring u) (all_ids u) (each_walked_once u).once

  pub declaring_contained : AreContained u (filter (is_declaring u) (all_ids u))
  declaring_contained = All-filter (is_declaring u) (IsContained u) (all_ids u) (λ k d h. ((each_walked_once u).all (get_or (all_ids u) k d)).1 (All-contains_itself (all_ids u) k d h))
