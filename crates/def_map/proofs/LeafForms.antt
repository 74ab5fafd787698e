-- How many leaves there are.
use Rattle.std.proofs.Common.{◌≡◌, ℕ, ◌+◌, ◌≤◌, ◌<◌, List, length, drop, get_or, ap, ◌∙◌, arith, length-append}
use Rattle.item_tree.specs.declared.use_tree.UseTree.{UseTree}
use Rattle.item_tree.specs.Tree.{Tree, Branches, single, glob, prefixed, no_branches, branch_and, tree_nodes, branch_nodes, tree_count, tree_of, trees_of}
use Rattle.item_tree.specs.Inner.Expanding.{branch_count}
use Rattle.item_tree.proofs.TreeLemmas.{tree_forms, trees_of-more, branch_count-more}
use Rattle.def_map.specs.UseLeaves.{leaf_count, leaf_counts}

-- no more than nodes
mutual
  pub leaves_fit : (t : Tree) → leaf_count t ≤ tree_count t
  leaves_fit (single p a) = omega arith
  leaves_fit (glob p) = omega arith
  leaves_fit (prefixed p ts) = let below = all_leaves_fit ts in omega arith

  pub all_leaves_fit : (ts : Branches) → leaf_counts ts ≤ branch_count ts
  all_leaves_fit no_branches = omega arith
  all_leaves_fit (branch_and t ts) = omega (arith, leaves_fit t, all_leaves_fit ts, length-append (tree_nodes t) (branch_nodes ts))

-- one more tree of a slice
pub leaves_more : (ts : List UseTree) (i : ℕ) (t : UseTree) → i < length ts → t ≡ get_or ts i t → leaf_counts (trees_of (drop i ts)) ≡ leaf_count (tree_of t) + leaf_counts (trees_of (drop (i + 1) ts))
leaves_more ts i t h e = ap leaf_counts (trees_of-more ts i t h e)

pub nodes_more : (ts : List UseTree) (i : ℕ) (t : UseTree) → i < length ts → t ≡ get_or ts i t → branch_count (trees_of (drop i ts)) ≡ tree_count (tree_of t) + branch_count (trees_of (drop (i + 1) ts))
nodes_more ts i t h e = ap branch_count (trees_of-more ts i t h e) ∙ branch_count-more (tree_of t) (trees_of (drop (i + 1) ts))

pub ruleset leaf_forms = (tree_forms, leaves_fit, all_leaves_fit, leaves_more, nodes_more)
