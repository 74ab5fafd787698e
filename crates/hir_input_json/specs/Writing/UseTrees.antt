-- The data of a rename and of a use tree.
use Rattle.std.specs.Prelude.{ℕ, List, Bool, codes, bytes_eq, if◌then◌else◌, Option, Some, None}
use Rattle.serde_json.specs.Data.{Data, null, boolean, string, array, object, Items, no_items, no_members, member}
use Rattle.hir_input.specs.declared.ast.Rename.{Rename}
use Rattle.hir_input.specs.UseTreeView.{UseNode, UseTreeView, UseTreeViews, bare_tree, listed_tree, no_trees, tree_and}
use Rattle.hir_input_json.specs.Writing.Parts.{led_items, maybe_data, name_data, ◌>>=◌}
use Rattle.hir_input_json.specs.Writing.Paths.{path_data}

-- `_` is no name for one
abbrev pub renamed_data : Option (List ℕ) → Option Data
renamed_data None = Some (string (codes "_"))
renamed_data (Some name) = if bytes_eq name (codes "_") then None else name_data name

-- a rename
abbrev pub rename_data : Rename → Option Data
rename_data r = renamed_data r.name

abbrev pub use_tree_object : Data → Bool → (rename list : Data) → Data
use_tree_object path star rename list = object (member (codes "list") list (member (codes "path") path (member (codes "rename") rename (member (codes "star") (boolean star) no_members))))

-- what is written at one node, with its list
abbrev pub use_node_data : UseNode → Data → Option Data
use_node_data node list = do
  p ← maybe_data path_data node.path
  r ← maybe_data rename_data node.rename
  Some (use_tree_object p node.star r list)

-- a use tree
abbrev mutual
  pub use_tree_data : UseTreeView → Option Data
  use_tree_data (bare_tree node) = use_node_data node null
  use_tree_data (listed_tree node ts) = do
    ds ← use_trees_data ts
    use_node_data node (array ds)

  pub use_trees_data : UseTreeViews → Option Items
  use_trees_data no_trees = Some no_items
  use_trees_data (tree_and t ts) = led_items (use_tree_data t) (use_trees_data ts)
