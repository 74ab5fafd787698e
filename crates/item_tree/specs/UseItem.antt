-- A use as plain data, and the sizes that it may have.
use Rattle.std.specs.Prelude.{ℕ, ◌≤◌, Option, None, Some}
use Rattle.item_tree.specs.Tree.{Tree, tree_count}
use Rattle.item_tree.specs.KeptUse.{use_tree_limit}
use Rattle.item_tree.specs.Imports.{most_supers, super_limit}

-- the id of its visibility, and its use tree
pub record UseItem : Type 0 where
  pub visibility : ℕ
  pub tree : Tree

-- no size is passed
pub record UseFits (t : Tree) : Type 0 where
  pub nodes : tree_count t ≤ use_tree_limit
  pub supers : most_supers 0 t ≤ super_limit

-- the most times that `super` stands in what is kept, if anything is
abbrev pub kept_supers : Option Tree → ℕ
kept_supers None = 0
kept_supers (Some t) = most_supers 0 t
