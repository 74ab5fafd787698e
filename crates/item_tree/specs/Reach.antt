-- The ids of the items of a tree: at the top, in an item, and all.
use Rattle.std.specs.Prelude.{ℕ, ◌+◌, ◌-◌, ◌/◌, List, [], ◌∷◌, ◌++◌, length}
use Rattle.std.specs.Option.{option_map_or}
use Rattle.item_tree.specs.Node.{Node, leaf, parent, Forest, empty, more, Unfolding}
use Rattle.item_tree.specs.Layout.{node_walk, node_id, ids, node_at}

-- where b nodes are met before the walk of a node begins: the ids of its children
abbrev pub inner_ids : ℕ → Node → List ℕ
inner_ids b (leaf h l) = []
inner_ids b (parent h t f) = ids b f

-- and its own id and all below it, each before those below
abbrev mutual
  pub node_ids : ℕ → Node → List ℕ
  node_ids b (leaf h l) = node_id b (leaf h l) ∷ []
  node_ids b (parent h t f) = node_id b (parent h t f) ∷ forest_ids b f

  pub forest_ids : ℕ → Forest → List ℕ
  forest_ids b empty = []
  forest_ids b (more n f) = node_ids b n ++ forest_ids (b + length (node_walk n)) f

-- how many nodes are met before the walk of the node of an id begins
abbrev pub met_before : ℕ → Node → ℕ
met_before i n = (i / 2 + 1) - length (node_walk n)

-- the ids at the top
unfoldable pub top_ids : Unfolding → List ℕ
top_ids u = ids 0 u.forest

-- the ids of the children of the node of an id
unfoldable pub child_ids : Unfolding → ℕ → List ℕ
child_ids u i = option_map_or (λ n. inner_ids (met_before i n) n) (node_at u.forest i) []

-- the ids from that of a node on down, each before those below it
unfoldable pub ids_from : Unfolding → ℕ → List ℕ
ids_from u i = option_map_or (λ n. node_ids (met_before i n) n) (node_at u.forest i) []

-- all ids, each before those below it
unfoldable pub all_ids : Unfolding → List ℕ
all_ids u = forest_ids 0 u.forest
