-- A use tree as it is written, as plain data.
use Rattle.std.specs.Prelude.{ℕ, Bool, List, [], ◌∷◌, ◌++◌, length, map, Option, Some, None, option_map}
use Rattle.hir_input.specs.Lists.{list_as}
use Rattle.hir_input.specs.declared.ast.PathNode.{PathNode}
use Rattle.hir_input.specs.declared.ast.Rename.{Rename}
use Rattle.hir_input.specs.declared.ast.UseTree.{UseTree}
use Rattle.hir_input.specs.declared.ast.UseTree.TheOpen.{UseTree-F}
use Rattle.hir_input.specs.declared.ast.UseTree.TheFolds.{fold-UseTree}

-- what is written at one node, but for its list
pub record UseNode : Type 0 where
  pub path : Option PathNode
  pub star : Bool
  pub rename : Option Rename

-- a use tree may have a list
mutual
  pub data UseTreeView : Type 0 where
    bare_tree : UseNode → UseTreeView
    listed_tree : UseNode → UseTreeViews → UseTreeView

  pub data UseTreeViews : Type 0 where
    no_trees : UseTreeViews
    tree_and : UseTreeView → UseTreeViews → UseTreeViews

-- a list of use trees
abbrev pub trees_from : List UseTreeView → UseTreeViews
trees_from = list_as no_trees tree_and

-- a use tree with or without a list
abbrev pub tree_from : UseNode → Option (List UseTreeView) → UseTreeView
tree_from node None = bare_tree node
tree_from node (Some ts) = listed_tree node (trees_from ts)

-- ---- what a use tree is seen as

-- a use tree, with each of those in its list seen in its place
abbrev pub use_tree_step : UseTree-F UseTreeView → UseTreeView
use_tree_step t = tree_from (record { path = t.path; star = t.star; rename = t.rename }) (option_map (λ v. v.items) t.list)

-- a use tree as plain data
abbrev pub use_tree_view : UseTree → UseTreeView
use_tree_view = fold-UseTree UseTreeView use_tree_step

abbrev pub use_trees_view : List UseTree → UseTreeViews
use_trees_view ts = trees_from (map use_tree_view ts)

-- ---- the nodes

abbrev pub use_node : UseTreeView → UseNode
use_node (bare_tree node) = node
use_node (listed_tree node ts) = node

-- all written nodes, each before those below it
abbrev mutual
  pub written_nodes : UseTreeView → List UseTreeView
  written_nodes (bare_tree node) = bare_tree node ∷ []
  written_nodes (listed_tree node ts) = listed_tree node ts ∷ all_written_nodes ts

  pub all_written_nodes : UseTreeViews → List UseTreeView
  all_written_nodes no_trees = []
  all_written_nodes (tree_and t ts) = written_nodes t ++ all_written_nodes ts

-- how many nodes are written
abbrev pub written_count : UseTreeView → ℕ
written_count t = length (written_nodes t)
