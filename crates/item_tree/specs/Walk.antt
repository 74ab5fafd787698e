-- Walks of a tree by its ids.
use Rattle.std.specs.Prelude.{◌≡◌, ◌≢◌, ◌↔◌, ℕ, List, ◌∷◌, All, flat_map, AllPairs, Contains}
use Rattle.std.specs.Option.{option_map_or}
use Rattle.item_tree.specs.Node.{Node, leaf, parent, Forest, empty, node_count, Unfolding}
use Rattle.item_tree.specs.Layout.{node_at}
use Rattle.item_tree.specs.Reach.{top_ids, child_ids, ids_from, all_ids}
use Rattle.item_tree.specs.Shown.{IsContained, StandFor}

-- what h says of the node that an id stands for, else d
abbrev pub of_id : {X : Type 0} → Unfolding → X → (Node → X) → ℕ → X
of_id u d h i = option_map_or h (node_at u.forest i) d

-- each of the ids stands for a node
abbrev pub AreContained : Unfolding → List ℕ → Type 0
AreContained u is = All (IsContained u) is

-- the number of nodes from the node of an id on down
abbrev pub count_at : Unfolding → ℕ → ℕ
count_at u i = of_id u 0 node_count i

-- the children of a node, and of that of an id
abbrev pub children : Node → Forest
children (leaf h l) = empty
children (parent h t f) = f

-- the items in the one with this id
abbrev pub children_at : Unfolding → ℕ → Forest
children_at u i = of_id u empty children i

-- A walk from the top meets each item once, and ends.
pub record IsWalkedOnce (u : Unfolding) : Type 0 where
  -- the ids of an item's children stand for them
  pub stand : (i : ℕ) → IsContained u i → StandFor u (child_ids u i) (children_at u i)
  -- it meets the ids from each at the top on down
  pub top : all_ids u ≡ flat_map (ids_from u) (top_ids u)
  -- that is an id, and then those from each of its children on down
  pub below : (i : ℕ) → IsContained u i → ids_from u i ≡ i ∷ flat_map (ids_from u) (child_ids u i)
  -- no two that it meets are the same
  pub once : AllPairs (λ i j. i ≢ j) (all_ids u)
  -- they are those that stand for nodes
  pub all : (i : ℕ) → IsContained u i ↔ Contains (all_ids u) i
