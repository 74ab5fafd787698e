-- The lines of an outline.
use Rattle.std.specs.Prelude.{ℕ, List, [], ◌++◌, codes, Option, Some, None}
use Rattle.hir_input.specs.{declared.ids.FileAstId.FileAstId, Id.shown_id}
use Rattle.item_tree.specs.Node.{Node, leaf, parent, Forest, empty, more, node_ast}
use Rattle.tree_walk.specs.Declarations.{node_name}

-- the name of an item, behind a space
abbrev pub spaced_name : Option (List ℕ) → List ℕ
spaced_name None = []
spaced_name (Some name) = codes " " ++ name

-- the line of an item, behind its indent
unfoldable pub line : FileAstId → Option (List ℕ) → List ℕ
line id name = shown_id id ++ spaced_name name ++ codes "\n"

-- what stands in an item is indented by four spaces more
abbrev pub indent_more : List ℕ → List ℕ
indent_more indent = indent ++ codes "    "

-- the line of each item, before those of the items in it
abbrev mutual
  pub node_lines : List ℕ → Node → List ℕ
  node_lines indent (leaf h l) = indent ++ line (node_ast (leaf h l)) (node_name (leaf h l))
  node_lines indent (parent h t f) = indent ++ line (node_ast (parent h t f)) (node_name (parent h t f)) ++ forest_lines (indent_more indent) f

  -- the lines of a forest's items, behind this indent
  pub forest_lines : List ℕ → Forest → List ℕ
  forest_lines indent empty = []
  forest_lines indent (more n f) = node_lines indent n ++ forest_lines indent f
