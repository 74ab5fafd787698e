-- Imports as text.
use Rattle.std.specs.Prelude.{ℕ, List, ◌++◌, codes, Option}
use Rattle.hir_input.specs.Path.{Path, shown_path}
use Rattle.item_tree.specs.declared.use_tree.ImportAlias.{ImportAlias}
use Rattle.item_tree.specs.declared.use_tree.ImportKind.{ImportKind}
use Rattle.item_tree.specs.declared.use_tree.ImportKind.TheVariants as kind
use Rattle.item_tree.specs.UseText.{shown_rename}

-- an import as a use of it alone would be written
abbrev pub import_text : List (List ℕ) → ImportKind → Path → Option ImportAlias → List ℕ
import_text reserved kind.Plain path alias = shown_path reserved path ++ shown_rename reserved alias
import_text reserved kind.Glob path alias = shown_path reserved path ++ codes "::*"
import_text reserved kind.TypeOnly path alias = shown_path reserved path ++ codes "::{self" ++ shown_rename reserved alias ++ codes "}"
