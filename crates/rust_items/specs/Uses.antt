-- The use trees of items, and where they begin.
use Rattle.std.specs.Prelude.{Bool, true, false, if◌then◌else◌, Option, Some, None, List, [], ◌∷◌, ◌++◌}
use Rattle.hir_input.specs.declared.ast.PathNode.{PathNode}
use Rattle.hir_input.specs.declared.ast.PathNode.TheVariants.{Unreadable}
use Rattle.hir_input.specs.Syntax.{ItemView, ItemViews, use_item, listed_module, listed_extern_block, no_items, item_and}
use Rattle.hir_input.specs.UseTreeView.{UseTreeView, bare_tree, listed_tree, UseTreeViews, no_trees, tree_and}

-- ---- the use trees of an item

-- a path can be read, or none is written
abbrev pub is_readable : Option PathNode → Bool
is_readable (Some Unreadable) = false
is_readable _ = true

-- the trees of a use tree that can be read, each before those in it; where its path can not be read, nor can what stands in its list
abbrev mutual
  pub readable_trees : UseTreeView → List UseTreeView
  readable_trees (bare_tree n) = if is_readable n.path then bare_tree n ∷ [] else []
  readable_trees (listed_tree n ts) = if is_readable n.path then listed_tree n ts ∷ all_readable_trees ts else []

  pub all_readable_trees : UseTreeViews → List UseTreeView
  all_readable_trees no_trees = []
  all_readable_trees (tree_and t ts) = readable_trees t ++ all_readable_trees ts

abbrev pub written_trees : Option UseTreeView → List UseTreeView
written_trees None = []
written_trees (Some t) = readable_trees t

-- those of the uses among an item and the items that it holds, in preorder
abbrev mutual
  pub trees_in : ItemView → List UseTreeView
  trees_in (use_item u) = written_trees u.use_tree
  trees_in (listed_module n semicolon is) = trees_within is
  trees_in (listed_extern_block n is) = trees_within is
  trees_in _ = []

  pub trees_within : ItemViews → List UseTreeView
  trees_within no_items = []
  trees_within (item_and i is) = trees_in i ++ trees_within is
