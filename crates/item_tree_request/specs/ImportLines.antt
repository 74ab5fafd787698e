-- The texts of imports.
use Rattle.std.specs.Prelude.{ℕ, List, [], ◌++◌, codes, decimal, flat_map}
use Rattle.hir_input.specs.declared.ids.AstIdKind.TheVariants as kind
use Rattle.hir_input.specs.declared.ids.FileAstId.{FileAstId}
use Rattle.hir_input.specs.Id.{shown_id}
use Rattle.hir_input.specs.Path.{shown_path}
use Rattle.item_tree.specs.declared.use_tree.ImportKind.{ImportKind}
use Rattle.item_tree.specs.declared.use_tree.ImportKind.TheVariants.{Plain, Glob, TypeOnly}
use Rattle.item_tree.specs.Imports.{Import, imports}
use Rattle.item_tree.specs.Node.{Leaf, use_item, inline, extern_block, Head, Node, leaf, parent, Forest, empty, more, file_id}
use Rattle.item_tree.specs.Tree.{Tree}
use Rattle.item_tree.specs.UseText.{shown_rename}

abbrev pub import_kind_word : ImportKind → List ℕ
import_kind_word Plain = codes "plain"
import_kind_word Glob = codes "glob"
import_kind_word TypeOnly = codes "type"

-- under these reserved words
module _ (reserved : List (List ℕ)) where
  -- the line of an import
  unfoldable pub import_line : Import → List ℕ
  import_line x = decimal x.index ++ codes " " ++ shown_path reserved x.path ++ codes " " ++ import_kind_word x.kind ++ shown_rename reserved x.alias ++ codes "\n"

  -- the line of a use's id, and those of its imports
  unfoldable pub use_lines : FileAstId → Tree → List ℕ
  use_lines a t = shown_id a ++ codes "\n" ++ flat_map import_line (imports t)

  abbrev pub leaf_lines : {V : Type 0} → Head → Leaf V → List ℕ
  leaf_lines h (use_item v t) = use_lines (file_id kind.Use h) t
  leaf_lines h l = []

  -- the lines of each use of a forest, also in its modules, in order; an extern block holds no use
  abbrev mutual
    pub node_lines : Node → List ℕ
    node_lines (leaf h l) = leaf_lines h l
    node_lines (parent h (inline name v) f) = import_lines f
    node_lines (parent h extern_block f) = []

    pub import_lines : Forest → List ℕ
    import_lines empty = []
    import_lines (more n f) = node_lines n ++ import_lines f
