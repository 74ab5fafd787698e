-- For whoever walks a tree by its ids, in this crate or in another.
use Rattle.std.proofs.Common.{◌≡◌, ℕ, zero, suc, ◌+◌, ◌<◌, List, [], ◌∷◌, length, map, sum, get_or, Option, Some, None, refl, ap, sym, subst, ◌∙◌, arith, is_some, IsSome, sum_by, flat_map}
use Rattle.item_tree.proofs.Common.{option_map_or, sum-map, sum_by-cons, flat_map-map, FileAstId, RawVisibility, Leaf, Trunk, Node, leaf, parent, Forest, empty, more, nodes, node_count, count, Unfolding, nothing, node_at, vis_at, inner_ids, met_before, top_ids, child_ids, IsContained, HasVisibility, StandFor, IsLeaf, IsParent, of_id, AreContained, children, count_at, IsWalkedOnce}
use Rattle.item_tree.proofs.TreeWalks.{walked_once, top_ids-is, top-stands}
use Rattle.item_tree.proofs.VisOnce.{vis_once}

-- ---- what is said of ids is what is said of the nodes that they stand for

module _ {X : Type 0} (u : Unfolding) (d : X) (h : Node → X) where
  pub of_id_is : (i : ℕ) (n : Node) → node_at u.forest i ≡ Some n → of_id u d h i ≡ h n
  of_id_is i n e = ap (λ o. option_map_or h o d) e

  pub map_of_id : (is : List ℕ) (ns : List Node) → map (node_at u.forest) is ≡ map Some ns → map (of_id u d h) is ≡ map h ns
  map_of_id [] [] e = refl
  map_of_id (i ∷ is) (n ∷ ns) e =
      let first : node_at u.forest i ≡ Some n = cc in
      let others : map (node_at u.forest) is ≡ map Some ns = cc in
      rw (first, map_of_id is ns others) refl
  map_of_id _ _ e = absurd (cc)

  pub leaf_of_id : (i : ℕ) (a : FileAstId) (l : Leaf ℕ) (p : IsLeaf u i a l) → of_id u d h i ≡ h (leaf p.head p.item)
  leaf_of_id i a l p = of_id_is i (leaf p.head p.item) p.found

  pub parent_of_id : (i : ℕ) (a : FileAstId) (t : Trunk ℕ) (is : List ℕ) (p : IsParent u i a t is) → of_id u d h i ≡ h (parent p.head p.item p.below)
  parent_of_id i a t is p = of_id_is i (parent p.head p.item p.below) p.found

-- no id stands for a node of nothing
pub of_id_nothing : {X : Type 0} (d : X) (h : Node → X) (i : ℕ) → of_id nothing d h i ≡ d
unfolding node_at
of_id_nothing d h i = refl

pub flat_map_of_id : {X : Type 0} (u : Unfolding) (h : Node → List X) (is : List ℕ) (ns : List Node) → map (node_at u.forest) is ≡ map Some ns → flat_map (of_id u [] h) is ≡ flat_map h ns
flat_map_of_id u h is ns e = sym (flat_map-map (λ xs. xs) (of_id u [] h) is) ∙ ap (flat_map (λ xs. xs)) (map_of_id u [] h is ns e) ∙ flat_map-map (λ xs. xs) h ns

pub sum_by_of_id : (u : Unfolding) (h : Node → ℕ) (is : List ℕ) (ns : List Node) → map (node_at u.forest) is ≡ map Some ns → sum_by (of_id u 0 h) is ≡ sum_by h ns
sum_by_of_id u h is ns e = sym (sum-map (of_id u 0 h) is) ∙ ap sum (map_of_id u 0 h is ns e) ∙ sum-map h ns

-- ---- ids that a tree lends stand for nodes

one_contained : (u : Unfolding) (is : List ℕ) (ns : List Node) (k d : ℕ) → map (node_at u.forest) is ≡ map Some ns → k < length is → IsContained u (get_or is k d)
one_contained u [] ns k d e h = absurd (omega arith)
one_contained u (i ∷ is) [] k d e h = absurd (cc)
one_contained u (i ∷ is) (n ∷ ns) zero d e h = let first : node_at u.forest i ≡ Some n = cc in ap is_some first
one_contained u (i ∷ is) (n ∷ ns) (suc k) d e h = let others : map (node_at u.forest) is ≡ map Some ns = cc in one_contained u is ns k d others (omega arith)

-- ids of given nodes
pub all_contained : (u : Unfolding) (is : List ℕ) (ns : List Node) → map (node_at u.forest) is ≡ map Some ns → AreContained u is
all_contained u is ns e = λ k d h. one_contained u is ns k d e h

-- ids of a forest's nodes, as those at the top
pub ids_contained : (u : Unfolding) (is : List ℕ) (f : Forest) → StandFor u is f → AreContained u is
ids_contained u is f e = all_contained u is (nodes f) e

-- ids of a node's children
pub children_contained : {u : Unfolding} {i : ℕ} {a : FileAstId} {t : Trunk ℕ} {is : List ℕ} → IsParent u i a t is → AreContained u is
children_contained {u} {i} {a} {t} {is} p = ids_contained u is p.below p.children

-- an item without children has no ids of children
pub leaf_childless : {u : Unfolding} {i : ℕ} {a : FileAstId} {l : Leaf ℕ} → IsLeaf u i a l → child_ids u i ≡ []
unfolding child_ids
leaf_childless {u} {i} {a} {l} p = leaf_of_id u [] (λ n. inner_ids (met_before i n) n) i a l p

-- ---- a walk from the top meets each id once

pub each_walked_once : (u : Unfolding) → IsWalkedOnce u
each_walked_once u = walked_once u

-- the ids at the top stand for the nodes there
pub tops_stand : (u : Unfolding) → StandFor u (top_ids u) u.forest
tops_stand u = subst (λ is. StandFor u is u.forest) (sym (top_ids-is u)) (top-stands u)

-- and those in a node for its children
pub children_of : (u : Unfolding) (i : ℕ) (n : Node) → node_at u.forest i ≡ Some n → StandFor u (child_ids u i) (children n)
children_of u i n e = subst (λ (o : Option Node). StandFor u (child_ids u i) (option_map_or children o empty)) e ((walked_once u).stand i (ap is_some e))

-- no ids stand for no nodes
pub no_ids : (u : Unfolding) (is : List ℕ) → StandFor u is empty → is ≡ []
no_ids u [] e = refl
no_ids u (i ∷ is) e = absurd (cc)

-- ---- ids that stand for one visibility are one

same_vis : (u : Unfolding) (i j : ℕ) (o : Option RawVisibility) → IsSome o → vis_at u.forest i ≡ o → vis_at u.forest j ≡ o → i ≡ j
same_vis u i j None s p q = absurd (cc)
same_vis u i j (Some v) s p q = vis_once u i j v p q

pub vis_id_once : (u : Unfolding) (i j : ℕ) → HasVisibility u i → vis_at u.forest i ≡ vis_at u.forest j → i ≡ j
vis_id_once u i j s e = same_vis u i j (vis_at u.forest i) s refl (sym e)

-- ---- how many nodes there are from an id on down, which every walk downwards lessens

sum_by-nodes : (f : Forest) → sum_by node_count (nodes f) ≡ count f
sum_by-nodes empty = refl
sum_by-nodes (more n f) = sum_by-cons node_count n (nodes f) ∙ ap (λ m. node_count n + m) (sum_by-nodes f)

-- the ids of a forest's nodes, as those at the top, count as the forest does
pub ids_count : (u : Unfolding) (is : List ℕ) (f : Forest) → StandFor u is f → sum_by (count_at u) is ≡ count f
ids_count u is f e = sum_by_of_id u node_count is (nodes f) e ∙ sum_by-nodes f

pub leaf_counts : {u : Unfolding} {i : ℕ} {a : FileAstId} {l : Leaf ℕ} → IsLeaf u i a l → count_at u i ≡ 1
leaf_counts {u} {i} {a} {l} p = leaf_of_id u 0 node_count i a l p

-- a parent counts one more than its children
pub parent_counts : {u : Unfolding} {i : ℕ} {a : FileAstId} {t : Trunk ℕ} {is : List ℕ} → IsParent u i a t is → count_at u i ≡ 1 + sum_by (count_at u) is
parent_counts {u} {i} {a} {t} {is} p =
    let whole : count_at u i ≡ suc (count p.below) = parent_of_id u 0 node_count i a t is p in
    omega (arith, whole, ids_count u is p.below p.children)
