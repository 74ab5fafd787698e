-- The items of a tree in the order in which they are written, each with what stands around it.
use Rattle.std.specs.Prelude.{ℕ, ◌+◌, Bool, not, ◌&&◌, List, [], ◌∷◌, ◌++◌, Option, Some, is_some}
use Rattle.hir_input.specs.{declared.ids.AstIdKind.AstIdKind, declared.ids.FileAstId.FileAstId, Path.Path}
use Rattle.hir_input.specs.declared.ids.AstIdKind.TheVariants as kind
use Rattle.item_tree.specs.{declared.visibility.RawVisibility.RawVisibility, Tree.Tree}
use Rattle.item_tree_attrs.specs.Collected.{Collected}
use Rattle.item_tree.specs.Node.{Leaf, use_item, macro_call, Node, leaf, parent, Forest, empty, more, node_ast, node_head, Unfolding}
use Rattle.tree_walk.specs.Declarations.{node_name, node_visibility}

-- what items stand in: how many items, the names of the modules among them from the top on down, and whether no cfg disables these, nor the file
pub record Around : Type 0 where
  pub level : ℕ
  pub scope : List (List ℕ)
  pub is_active : Bool

-- what an item without a name is told by: the tree of a use, the path of a macro call, or nothing
pub data Subject : Type 0 where
  no_subject : Subject
  used : Tree → Subject
  called : Path → Subject

abbrev pub leaf_subject : {V : Type 0} → Leaf V → Subject
leaf_subject (use_item v t) = used t
leaf_subject (macro_call path expand_to ctxt) = called path
leaf_subject _ = no_subject

abbrev pub node_subject : Node → Subject
node_subject (leaf h l) = leaf_subject l
node_subject (parent h t f) = no_subject

-- an item, what it stands in, and whether no cfg disables it, nor what it stands in
pub record RowView : Type 0 where
  pub level : ℕ
  pub scope : List (List ℕ)
  pub id : FileAstId
  pub name : Option (List ℕ)
  pub subject : Subject
  pub visibility : Option RawVisibility
  pub is_active : Bool

abbrev pub scope_below : List (List ℕ) → AstIdKind → Option (List ℕ) → List (List ℕ)
scope_below scope kind.Module (Some name) = scope ++ name ∷ []
scope_below scope _ _ = scope

-- attributes hold no false cfg
abbrev pub hold_no_false : Collected → Bool
hold_no_false attrs = not (is_some attrs.false_cfg)

-- an item's own do
abbrev pub is_enabled : Node → Bool
is_enabled n = hold_no_false (node_head n).attrs

-- those of a file do, as `#![cfg(..)]`: a false one disables the file as a whole
abbrev pub is_file_enabled : Unfolding → Bool
is_file_enabled u = hold_no_false u.top_attrs

-- what the items of a file stand in
abbrev pub top : Unfolding → Around
top u = record { level = 0; scope = []; is_active = is_file_enabled u }

abbrev pub row : Around → Node → RowView
row a n = record { level = a.level; scope = a.scope; id = node_ast n; name = node_name n; subject = node_subject n; visibility = node_visibility n; is_active = a.is_active && is_enabled n }

-- around what stands in an item
abbrev pub around_inside : RowView → Around
around_inside r = record { level = r.level + 1; scope = scope_below r.scope r.id.kind r.name; is_active = r.is_active }

-- the row of an item, before those of the items in it
abbrev mutual
  pub node_rows : Around → Node → List RowView
  node_rows around (leaf h l) = row around (leaf h l) ∷ []
  node_rows around (parent h t f) = row around (parent h t f) ∷ forest_rows (around_inside (row around (parent h t f))) f

  pub forest_rows : Around → Forest → List RowView
  forest_rows around empty = []
  forest_rows around (more n f) = node_rows around n ++ forest_rows around f

-- the rows of a whole tree
abbrev pub rows : Unfolding → List RowView
rows u = forest_rows (top u) u.forest
