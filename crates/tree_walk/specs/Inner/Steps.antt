-- For the crate's own functions: the walk of a tree, item by item, each with what it stands in.
use Rattle.std.specs.Prelude.{ℕ, List, [], ◌∷◌, ◌++◌, map, Vec}
use Rattle.std.specs.Borrow.{Bor}
use Rattle.item_tree.specs.{Node.Node, Node.leaf, Node.parent, Node.Forest, Node.more, Node.Unfolding, Reach.child_ids, Reach.top_ids, Walk.of_id}
use Rattle.tree_walk.specs.declared.steps as code
use Rattle.tree_walk.specs.Rows.{Around, around_inside, row, top}

-- the names of a scope
abbrev pub names_in : {Z : Type 0} → Vec (Bor (List ℕ)) Z → List (List ℕ)
names_in names = map (λ name. name.now) names.items

abbrev pub around_view : code.Around.Around → Around
around_view a = record { level = a.level; scope = names_in a.scope.value; is_active = a.is_active }

-- an item by its id, and what it stands in
abbrev pub step_view : code.Step.Step → ℕ × Around
step_view s = (s.id, around_view s.around)

-- around what stands in an item
abbrev pub around_below : Around → Node → Around
around_below a n = around_inside (row a n)

-- the steps from an item on down, and those of a forest whose nodes at the top the ids stand for
abbrev mutual
  pub node_steps : Unfolding → Around → ℕ → Node → List (ℕ × Around)
  node_steps u a i (leaf h l) = (i, a) ∷ []
  node_steps u a i (parent h t f) = (i, a) ∷ steps_in u (around_below a (parent h t f)) (child_ids u i) f

  pub steps_in : Unfolding → Around → List ℕ → Forest → List (ℕ × Around)
  steps_in u a (i ∷ is) (more n f) = node_steps u a i n ++ steps_in u a is f
  steps_in u a is f = []

-- those of a whole tree
abbrev pub steps : Unfolding → List (ℕ × Around)
steps u = steps_in u (top u) (top_ids u) u.forest

-- those from the item of an id on down
abbrev pub steps_at : Unfolding → Around → ℕ → List (ℕ × Around)
steps_at u a i = of_id u [] (node_steps u a i) i
