-- Lists of imports: lines, or objects.
use Rattle.std.specs.Prelude.{ℕ, Bool, if◌then◌else◌, List, [], ◌++◌, codes, map, Option, Some, None, option_map, flat_map}
use Rattle.hir_input.specs.declared.ids.FileAstId.{FileAstId}
use Rattle.hir_input.specs.Cfg.{CfgView, shown_cfg}
use Rattle.hir_input.specs.Path.{shown_path}
use Rattle.item_tree.specs.declared.visibility.RawVisibility.{RawVisibility}
use Rattle.item_tree.specs.Imports.{Import}
use Rattle.item_tree.specs.Node.{Forest, node_ast}
use Rattle.list_forms.specs.Colors.{bold_code, colored_text, faint_code}
use Rattle.list_forms.specs.Lines.{value_line}
use Rattle.list_forms.specs.declared.lines.Form.{Form}
use Rattle.list_forms.specs.declared.lines.Form.TheVariants.{Line, Json}
use Rattle.serde_json.specs.Data.{Data, string, array, object, no_members, member}
use Rattle.serde_json.specs.View.{items_of}
use Rattle.tree_walk.specs.Declarations.{declarations}
use Rattle.tree_walk.specs.DeclarationView.{DeclarationView, view_of}
use Rattle.rust_paths.specs.declared.names.TextRange.{TextRange}
use Rattle.source_rows.specs.declared.finder.Spot.{Spot}
use Rattle.source_rows.specs.Places.{item_place}
use Rattle.source_imports.specs.ImportCfgs.{ImportChoice, cfgs_at, is_use_listed}
use Rattle.source_imports.specs.ImportObjects.{alias_form, import_word}
use Rattle.source_listing.specs.ImportTexts.{import_text}
use Rattle.source_imports.specs.Imports.{of_declared}
use Rattle.source_listing.specs.Lines.{Source}
use Rattle.source_listing.specs.Objects.{bytes_form, column_form, line_form, range_form, visibility_form}
use Rattle.source_listing.specs.Paths.{bare_segment}
use Rattle.source_imports.specs.Removals.{import_removal}
use Rattle.source_listing.specs.Search.{joined_scope}
use Rattle.source_listing.specs.Uses.{FilePlaces, import_spot}

-- the place of its use tree and the import
abbrev pub placed_import_line : List (List ℕ) → Bool → List ℕ → Option Spot → Import → List ℕ
placed_import_line reserved is_colored path spot x =
    colored_text is_colored faint_code (item_place path spot) ++ colored_text is_colored bold_code (import_text reserved x.kind x.path x.alias) ++ codes "\n"

-- the texts of cfgs
abbrev pub cfgs_form : List CfgView → Data
cfgs_form cfgs = array (items_of (map (λ c. string (shown_cfg c)) cfgs))

-- the object of an import in modules, of a use with this visibility under these cfgs, that goes with these bytes
abbrev pub file_import_object : List (List ℕ) → List ℕ → List ℕ → Option RawVisibility → List CfgView → Option Spot → Option TextRange → Import → Data
file_import_object reserved path scope visibility cfgs spot removal x =
    object
    (member (codes "alias") (alias_form reserved x.alias)
    (member (codes "cfg") (cfgs_form cfgs)
    (member (codes "column") (column_form spot)
    (member (codes "file") (string path)
    (member (codes "kind") (string (import_word x.kind))
    (member (codes "line") (line_form spot)
    (member (codes "module") (string (joined_scope scope))
    (member (codes "path") (string (shown_path reserved x.path))
    (member (codes "range") (range_form spot)
    (member (codes "removal") (bytes_form removal)
    (member (codes "visibility") (visibility_form reserved visibility) no_members)))))))))))

abbrev pub import_told : List (List ℕ) → Form → List ℕ → List ℕ → Option RawVisibility → List CfgView → Option Spot → Option TextRange → Import → List ℕ
import_told reserved (Line is_colored) path scope visibility cfgs spot removal x = placed_import_line reserved is_colored path spot x
import_told reserved Json path scope visibility cfgs spot removal x = value_line (file_import_object reserved path scope visibility cfgs spot removal x)

-- by the number of its use tree
abbrev pub numbered_import : List (List ℕ) → Form → List ℕ → List ℕ → Option RawVisibility → List CfgView → (ℕ → Option TextRange) → (ℕ → Option Spot) → Import → List ℕ
numbered_import reserved form path scope visibility cfgs removed spots x = import_told reserved form path scope visibility cfgs (spots x.index) (removed x.index) x

-- of a declaration under these cfgs
abbrev pub seen_import : List (List ℕ) → Form → List ℕ → List CfgView → DeclarationView → (ℕ → Option TextRange) → (ℕ → Option Spot) → Import → List ℕ
seen_import reserved form path cfgs d = numbered_import reserved form path (flat_map bare_segment d.path) d.visibility cfgs

-- the listed imports of a declaration of this item
abbrev pub lines_if_any : List (List ℕ) → Form → ImportChoice → Source → FilePlaces → DeclarationView → Option FileAstId → List ℕ
lines_if_any reserved form c s places d None = []
lines_if_any reserved form c s places d (Some id) =
    if is_use_listed c id then of_declared (seen_import reserved form s.path (cfgs_at c id) d (import_removal s.text places id)) (import_spot s.text places id) d.declared else []

-- the listed imports of a declaration, of which a use alone has any
abbrev pub seen_lines : List (List ℕ) → Form → ImportChoice → Source → FilePlaces → DeclarationView → List ℕ
seen_lines reserved form c s places d = lines_if_any reserved form c s places d (option_map node_ast d.node)

-- the listed imports of all uses, in the order in which they are written
abbrev pub import_lines : List (List ℕ) → Form → ImportChoice → Source → FilePlaces → Forest → List ℕ
import_lines reserved form c s places f = flat_map (λ d. seen_lines reserved form c s places (view_of d)) (declarations f)
