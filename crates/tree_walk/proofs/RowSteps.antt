-- The rows of a tree, step by step.
use Rattle.std.proofs.Common.{◌≡◌, ℕ, List, [], ◌∷◌, map, Some, refl, ap, ◌∙◌, flat_map}
use Rattle.std.proofs.lemmas.Grind.{flat_map-append}
use Rattle.item_tree.specs.{Layout.node_at, Node.Node, Node.leaf, Node.parent, Node.Forest, Node.empty, Node.more, Node.nodes, Node.Unfolding, Reach.child_ids, Reach.top_ids}
use Rattle.item_tree.proofs.Walking.{children_of, tops_stand}
use Rattle.tree_walk.specs.Rows.{Around, node_rows, forest_rows, rows, top}
use Rattle.tree_walk.specs.Inner.{Rows.step_row, Steps.around_below, Steps.node_steps, Steps.steps_in, Steps.steps}

module _ (u : Unfolding) where
  mutual
    node_rows_are : (n : Node) (a : Around) (i : ℕ) → node_at u.forest i ≡ Some n → flat_map (step_row u) (node_steps u a i n) ≡ node_rows a n
    node_rows_are (leaf h l) a i e = rw e refl
    node_rows_are (parent h t f) a i e = rw (e, forest_rows_are f (around_below a (parent h t f)) (child_ids u i) (children_of u i (parent h t f) e)) refl

    forest_rows_are : (f : Forest) (a : Around) (is : List ℕ) → map (node_at u.forest) is ≡ map Some (nodes f) → flat_map (step_row u) (steps_in u a is f) ≡ forest_rows a f
    forest_rows_are empty a [] e = refl
    forest_rows_are empty a (i ∷ is) e = absurd (cc)
    forest_rows_are (more n f) a [] e = absurd (cc)
    forest_rows_are (more n f) a (i ∷ is) e =
        let first : node_at u.forest i ≡ Some n = cc in
        let others : map (node_at u.forest) is ≡ map Some (nodes f) = cc in
        flat_map-append (step_row u) (node_steps u a i n) (steps_in u a is f) ∙ rw (node_rows_are n a i first, forest_rows_are f a is others) refl

pub tree_rows : (u : Unfolding) (ss : List (ℕ × Around)) → ss ≡ steps u → flat_map (step_row u) ss ≡ rows u
tree_rows u ss e = ap (flat_map (step_row u)) e ∙ forest_rows_are u u.forest (top u) (top_ids u) (tops_stand u)
