-- The leaves of a use tree.
use Rattle.std.specs.Prelude.{ℕ, ◌+◌}
use Rattle.item_tree.specs.Tree.{Tree, Branches, single, glob, prefixed, no_branches, branch_and}

-- how many leaves a use tree has
abbrev mutual
  pub leaf_count : Tree → ℕ
  leaf_count (single p alias) = 1
  leaf_count (glob p) = 1
  leaf_count (prefixed p ts) = leaf_counts ts

  pub leaf_counts : Branches → ℕ
  leaf_counts no_branches = 0
  leaf_counts (branch_and t ts) = leaf_count t + leaf_counts ts
