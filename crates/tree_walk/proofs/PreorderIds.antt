-- The nodes of all ids, in order.
use Rattle.std.proofs.Common.{◌≡◌, ℕ, List, [], ◌∷◌, Some, map, refl, ap, sym, ◌∙◌}
use Rattle.std.proofs.lemmas.List.{map-append}
use Rattle.std.specs.{Prelude.is_some, List.flat_map}
use Rattle.item_tree.specs.{Node.Node, Node.leaf, Node.parent, Node.Forest, Node.empty, Node.more, Node.nodes, Node.Unfolding, Layout.node_at, Reach.all_ids, Reach.child_ids, Reach.ids_from, Reach.top_ids}
use Rattle.item_tree.proofs.Walking.{each_walked_once, children_of, no_ids, tops_stand}
use Rattle.tree_walk.specs.Preorder.{node_preorder, preorder}

-- the ids from that of a node on down stand for the nodes in order
module _ (u : Unfolding) where
  mutual
    ids_of_node : (n : Node) (i : ℕ) → node_at u.forest i ≡ Some n → map (node_at u.forest) (ids_from u i) ≡ map Some (node_preorder n)
    ids_of_node (leaf h l) i e =
        let none : child_ids u i ≡ [] = no_ids u (child_ids u i) (children_of u i (leaf h l) e) in
        ap (map (node_at u.forest)) ((each_walked_once u).below i (ap is_some e)) ∙ rw (e, none) refl
    ids_of_node (parent h t f) i e =
        let below : map (node_at u.forest) (flat_map (ids_from u) (child_ids u i)) ≡ map Some (preorder f) = ids_of_forest f (child_ids u i) (children_of u i (parent h t f) e) in
        ap (map (node_at u.forest)) ((each_walked_once u).below i (ap is_some e)) ∙ rw (e, below) refl

    ids_of_forest : (f : Forest) (is : List ℕ) → map (node_at u.forest) is ≡ map Some (nodes f) → map (node_at u.forest) (flat_map (ids_from u) is) ≡ map Some (preorder f)
    ids_of_forest empty [] e = refl
    ids_of_forest empty (i ∷ is) e = absurd (cc)
    ids_of_forest (more n f) [] e = absurd (cc)
    ids_of_forest (more n f) (i ∷ is) e =
        let first : node_at u.forest i ≡ Some n = cc in
        let others : map (node_at u.forest) is ≡ map Some (nodes f) = cc in
        map-append (node_at u.forest) (ids_from u i) (flat_map (ids_from u) is) ∙ rw (ids_of_node n i first, ids_of_forest f is others) (sym (map-append Some (node_preorder n) (preorder f)))

-- all ids stand for all nodes, in order
pub all_stand : (u : Unfolding) → map (node_at u.forest) (all_ids u) ≡ map Some (preorder u.forest)
all_stand u = ap (map (node_at u.forest)) (each_walked_once u).top ∙ ids_of_forest u u.forest (top_ids u) (tops_stand u)
