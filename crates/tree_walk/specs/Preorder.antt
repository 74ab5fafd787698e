-- The nodes of a forest, each before its children.
use Rattle.std.specs.Prelude.{List, [], ◌∷◌, ◌++◌}
use Rattle.item_tree.specs.Node.{Node, leaf, parent, Forest, empty, more}

abbrev mutual
  pub node_preorder : Node → List Node
  node_preorder (leaf h l) = leaf h l ∷ []
  node_preorder (parent h t f) = parent h t f ∷ preorder f

  -- the nodes of a forest, each before those in it
  pub preorder : Forest → List Node
  preorder empty = []
  preorder (more n f) = node_preorder n ++ preorder f
