-- The objects of imports.
use Rattle.std.specs.Prelude.{ℕ, List, [], ◌∷◌, codes, Option, Some, None}
use Rattle.serde_json.specs.Data.{Data, Members, null, string, object, no_members, member}
use Rattle.hir_input.specs.Path.{shown_path}
use Rattle.item_tree.specs.declared.use_tree.ImportAlias.{ImportAlias}
use Rattle.item_tree.specs.declared.use_tree.ImportKind.{ImportKind}
use Rattle.item_tree.specs.declared.use_tree.ImportKind.TheVariants as kind
use Rattle.item_tree.specs.Imports.{Import}
use Rattle.item_tree.specs.Node.{Forest}
use Rattle.item_tree.specs.UseText.{shown_alias}
use Rattle.tree_walk.specs.DeclarationView.{DeclarationView}
use Rattle.line_index.specs.declared.Units.{Units}
use Rattle.source_rows.specs.declared.finder.Spot.{Spot}
use Rattle.source_imports.specs.Imports.{of_seen, of_uses}
use Rattle.source_listing.specs.Objects.{column_form, line_form}
use Rattle.source_listing.specs.Uses.{FilePlaces}

-- the word of a kind of import
abbrev pub import_word : ImportKind → List ℕ
import_word kind.Plain = codes "plain"
import_word kind.Glob = codes "glob"
import_word kind.TypeOnly = codes "type"

abbrev pub alias_form : List (List ℕ) → Option ImportAlias → Data
alias_form reserved None = null
alias_form reserved (Some alias) = string (shown_alias reserved alias)

-- the members of the object of an import whose use tree stands there, in the order of their keys
abbrev pub import_members : List (List ℕ) → Option Spot → Import → Members
import_members reserved spot x =
    member (codes "alias") (alias_form reserved x.alias)
    (member (codes "column") (column_form spot)
    (member (codes "kind") (string (import_word x.kind))
    (member (codes "line") (line_form spot)
    (member (codes "path") (string (shown_path reserved x.path)) no_members))))

-- the object of an import whose use tree stands there
abbrev pub import_form : List (List ℕ) → Option Spot → Import → Data
import_form reserved spot x = object (import_members reserved spot x)

-- the same by the number of its use tree, alone in a list
abbrev pub import_object : List (List ℕ) → (ℕ → Option Spot) → Import → List Data
import_object reserved spots x = import_form reserved (spots x.index) x ∷ []

-- the objects of a declaration, of which a use alone has any
abbrev pub seen_objects : Units → List ℕ → List (List ℕ) → FilePlaces → DeclarationView → List Data
seen_objects units text reserved places d = of_seen (import_object reserved) units text places d

-- those of the imports of all uses, in the order in which they are written
abbrev pub import_objects : Units → List ℕ → List (List ℕ) → FilePlaces → Forest → List Data
import_objects units text reserved places f = of_uses (import_object reserved) units text places f
