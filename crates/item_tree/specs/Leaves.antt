-- Where the leaves of imports are written.
use Rattle.std.specs.Prelude.{◌≡◌, ℕ, ◌+◌, List, [], ◌∷◌, ◌++◌, slice_get, All, Option, Some, None, flat_map}
use Rattle.std.specs.Option.{option_map_or}
use Rattle.hir_input.specs.Path.{Path}
use Rattle.hir_input.specs.UseTreeView.{UseNode, UseTreeView, bare_tree, listed_tree, UseTreeViews, no_trees, tree_and, written_nodes, written_count}
use Rattle.item_tree.specs.Tree.{Tree, tree_count}
use Rattle.item_tree.specs.KeptUse.{kept_prefix, kept_tree, if_kept}
use Rattle.item_tree.specs.Imports.{Import, imports_from}

-- a written leaf that is kept: the paths written above it, its place among all written nodes, and its index among the kept ones
pub record WrittenLeaf : Type 0 where
  pub prefixes : List Path
  pub place : ℕ
  pub index : ℕ
  pub node : UseNode

-- what is imported by it: one import, or nothing
abbrev pub imports_of : List Path → ℕ → Option Tree → List Import
imports_of prefixes index None = []
imports_of prefixes index (Some t) = imports_from prefixes index t

abbrev pub leaf_imports : WrittenLeaf → List Import
leaf_imports l = imports_of l.prefixes l.index (kept_tree (bare_tree l.node))

-- the paths above the nodes of a list, below those above its own node
abbrev pub with_prefix : List Path → Option Path → List Path
with_prefix prefixes None = prefixes
with_prefix prefixes (Some p) = prefixes ++ p ∷ []

-- how many nodes are kept of a use tree
abbrev pub kept_count : UseTreeView → ℕ
kept_count w = option_map_or tree_count (kept_tree w) 0

-- the leaves that are kept of a use tree below these paths, in order; its first node has this place and, if it is kept, this index
abbrev mutual
  pub leaves_from : List Path → ℕ → ℕ → UseTreeView → List WrittenLeaf
  leaves_from prefixes place index (bare_tree n) = if_kept (kept_tree (bare_tree n)) (record { prefixes = prefixes; place = place; index = index; node = n } ∷ [])
  leaves_from prefixes place index (listed_tree n ts) = option_map_or (λ prefix. all_leaves_from (with_prefix prefixes prefix) (place + 1) (index + 1) ts) (kept_prefix n.path) []

  pub all_leaves_from : List Path → ℕ → ℕ → UseTreeViews → List WrittenLeaf
  all_leaves_from prefixes place index no_trees = []
  all_leaves_from prefixes place index (tree_and t ts) = leaves_from prefixes place index t ++ all_leaves_from prefixes (place + written_count t) (index + kept_count t) ts

abbrev pub leaves : UseTreeView → List WrittenLeaf
leaves w = leaves_from [] 0 0 w

-- The imports are those of the written leaves in their order, and each leaf stands at the place that the list has at its index.
pub record AreWritten (w : UseTreeView) (places : List ℕ) (imports : List Import) : Type 0 where
  pub imported : imports ≡ flat_map leaf_imports (leaves w)
  pub listed : All (λ l. slice_get places l.index ≡ Some l.place) (leaves w)
  pub written : All (λ l. slice_get (written_nodes w) l.place ≡ Some (bare_tree l.node)) (leaves w)
