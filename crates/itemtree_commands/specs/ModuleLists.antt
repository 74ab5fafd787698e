-- The modules of a crate as a list, and what is told of those that have no file.
use Rattle.std.specs.Prelude.{◌≡◌, ℕ, Bool, List, [], ◌∷◌, ◌++◌, codes, flat_map, map, slice_get, Option, Some, None, option_map, option_and_then}
use Rattle.std.specs.List.{fold}
use Rattle.std.specs.Option.{option_map_or}
use Rattle.hir_input.specs.declared.ids.FileAstId.{FileAstId}
use Rattle.hir_input.specs.Name.{shown_name}
use Rattle.item_tree.specs.Node.{Unfolding}
use Rattle.line_index.specs.declared.Position.{Position}
use Rattle.line_index.specs.declared.Units.TheVariants.{Characters}
use Rattle.line_index.specs.Positions.{position_in}
use Rattle.list_forms.specs.Colors.{bold_code, colored_text, faint_code, red_code}
use Rattle.list_forms.specs.Lines.{column_number, line_number, value_line}
use Rattle.list_forms.specs.declared.lines.Form.{Form}
use Rattle.list_forms.specs.declared.lines.Form.TheVariants.{Line, Json}
use Rattle.module_tree.specs.declared.data.ModuleData.{ModuleData}
use Rattle.module_tree.specs.declared.data.ModuleId.{ModuleId}
use Rattle.module_tree.specs.declared.data.ModuleOrigin.{ModuleOrigin}
use Rattle.module_tree.specs.declared.data.ModuleOrigin.TheVariants.{CrateRoot, File, Inline}
use Rattle.module_tree.specs.declared.data.UnresolvedReason.{UnresolvedReason}
use Rattle.module_tree.specs.declared.data.UnresolvedReason.TheVariants.{NoFile, TwoFiles, Circle, TooDeep}
use Rattle.module_tree.specs.Modules.{Unresolved}
use Rattle.rust_items.specs.declared.source_file.ItemPlace.{ItemPlace}
use Rattle.serde_json.specs.Data.{Data, string, object, no_members, member}
use Rattle.source_listing.specs.Uses.{PlacedText, import_spot, file_places, with_places}
use Rattle.source_rows.specs.Listed.{Closers}
use Rattle.source_rows.specs.Places.{place_of, stands_at}
use Rattle.source_rows.specs.Sources.{place_text}
use Rattle.itemtree_commands.specs.Answers.{HasListed}
use Rattle.itemtree_commands.specs.declared.Options.{Options}
use Rattle.itemtree_commands.specs.declared.trees.SourceTree.{SourceTree}

-- a file: its path, its text, the places of its items and of its use trees, and its tree
pub record CrateFile : Type 0 where
  pub path : List ℕ
  pub text : List ℕ
  pub places : List ItemPlace
  pub use_trees : List ℕ
  pub tree : Unfolding

-- the file of a path, as it is read
pub record IsCrateFile (o : Options) (path text : List ℕ) (f : CrateFile) : Type 0 where
  pub same_path : f.path ≡ path
  pub same_text : f.text ≡ text
  pub closers : Option Closers
  pub source : SourceTree
  pub listed : HasListed o text closers source
  pub places : f.places ≡ source.places.items
  pub use_trees : f.use_trees ≡ source.use_trees.items
  pub tree : f.tree ≡ source.tree

-- the text of a file, with where its items and use trees stand
abbrev pub placed_text : CrateFile → PlacedText
placed_text f = with_places f.text (file_places f.places f.use_trees)

-- ---- paths

-- a name behind the path of the module around it
abbrev pub inner_path : List (List ℕ) → List ℕ → List ℕ → List ℕ
inner_path reserved around name = around ++ codes "::" ++ shown_name reserved name

-- a module with its path
abbrev pub Pathed : Type 0
Pathed = ModuleData × List ℕ

-- the path of a module among these
abbrev pub known_module_path : List Pathed → ModuleId → List ℕ
known_module_path ps id = option_map_or (λ p. p.1) (slice_get ps id.0) []

-- the path of a module behind these; the root is `crate`
abbrev pub module_path : List (List ℕ) → List Pathed → Option ModuleId → Option (List ℕ) → List ℕ
module_path reserved ps (Some parent) (Some name) = inner_path reserved (known_module_path ps parent) name
module_path reserved ps None name = codes "crate"
module_path reserved ps (Some parent) None = codes "crate"

-- with a module behind these, in one of which it stands
abbrev pub with_pathed : List (List ℕ) → List Pathed → ModuleData → List Pathed
with_pathed reserved ps m = ps ++ (m, module_path reserved ps m.parent m.name) ∷ []

-- the modules, each with its path
abbrev pub pathed_modules : List (List ℕ) → List ModuleData → List Pathed
pathed_modules reserved ms = fold (with_pathed reserved) [] ms

-- ---- places

abbrev pub file_path : List CrateFile → ℕ → List ℕ
file_path files file = option_map_or (λ f. f.path) (slice_get files file) []

-- the file of a module
abbrev pub file_of_module : List ModuleData → ModuleId → ℕ
file_of_module ms m = option_map_or (λ d. d.file) (slice_get ms m.0) 0

-- where an item of a file stands
abbrev pub position_in_text : FileAstId → PlacedText → Option Position
position_in_text id t = option_map (λ p. position_in Characters t.text (stands_at p)) (place_of id t.places.items)

-- where the use tree of this number in an item begins
abbrev pub tree_position_in_text : FileAstId → ℕ → PlacedText → Option Position
tree_position_in_text id index t = option_map (λ spot. spot.position) (import_spot t.text t.places id index)

abbrev pub item_position : List PlacedText → ℕ → FileAstId → Option Position
item_position texts file id = option_and_then (position_in_text id) (slice_get texts file)

-- the item by which a module is declared, unless it is the root
abbrev pub declaration : ModuleOrigin → Option FileAstId
declaration CrateRoot = None
declaration (File id) = Some id
declaration (Inline id) = Some id

-- the file in which a module is declared; the root stands in its own
abbrev pub declaring_file : List ModuleData → Option ModuleId → ℕ → ℕ
declaring_file ms None file = file
declaring_file ms (Some parent) file = file_of_module ms parent

-- where in that file; the root stands at its top
abbrev pub module_position : List PlacedText → ℕ → Option FileAstId → Option Position
module_position texts file None = Some (record { line = 1; column = 1 })
module_position texts file (Some id) = item_position texts file id

-- what an editor and a compiler write of a place
abbrev pub module_place_text : List ℕ → Option Position → List ℕ
module_place_text path None = path ++ codes ": "
module_place_text path (Some p) = place_text path p

-- ---- modules

-- the line of a module that is declared there: its path, and the file in which its items stand
abbrev pub module_line : Bool → List ℕ → Option Position → List ℕ → List ℕ → List ℕ
module_line is_colored declared_in position path file =
    colored_text is_colored faint_code (module_place_text declared_in position) ++ colored_text is_colored bold_code path ++ codes " " ++ file ++ codes "\n"

-- the object of the same
abbrev pub crate_module_object : List ℕ → Option Position → List ℕ → List ℕ → Data
crate_module_object declared_in position path file =
    object
    (member (codes "column") (column_number position)
    (member (codes "declared_in") (string declared_in)
    (member (codes "file") (string file)
    (member (codes "line") (line_number position)
    (member (codes "path") (string path) no_members)))))

abbrev pub module_entry : Form → List ℕ → Option Position → List ℕ → List ℕ → List ℕ
module_entry (Line is_colored) declared_in position path file = module_line is_colored declared_in position path file
module_entry Json declared_in position path file = value_line (crate_module_object declared_in position path file)

-- that of a module with its path, by the texts of these files
abbrev pub placed_entry : Form → List CrateFile → List PlacedText → List ModuleData → Pathed → List ℕ
placed_entry form files texts ms p =
    let file = declaring_file ms p.0.parent p.0.file in
    module_entry form (file_path files file) (module_position texts file (declaration p.0.origin)) p.1 (file_path files p.0.file)

abbrev pub entry_of_module : Form → List CrateFile → List ModuleData → Pathed → List ℕ
entry_of_module form files ms p = placed_entry form files (map placed_text files) ms p

-- those of all modules of a crate
abbrev pub module_entries : Form → List (List ℕ) → List CrateFile → List ModuleData → List ℕ
module_entries form reserved files ms = flat_map (entry_of_module form files ms) (pathed_modules reserved ms)

-- ---- modules without a file

abbrev pub reason_words : UnresolvedReason → List ℕ
reason_words NoFile = codes " has no file: "
reason_words TwoFiles = codes " has two files: "
reason_words Circle = codes " is a file that it stands in: "
reason_words TooDeep = codes " stands in too many files: "

abbrev pub behind_comma : List ℕ → List ℕ
behind_comma path = codes ", " ++ path

-- paths, with commas between them
abbrev pub candidates_text : List (List ℕ) → List ℕ
candidates_text [] = []
candidates_text (path ∷ paths) = path ++ flat_map behind_comma paths

-- what is wrong with a `mod` of this path, and the paths that were looked for
abbrev pub unresolved_message : List ℕ → UnresolvedReason → List (List ℕ) → List ℕ
unresolved_message path reason paths = path ++ reason_words reason ++ candidates_text paths

-- the line of what is wrong there
abbrev pub fault_line : Bool → List ℕ → Option Position → List ℕ → List ℕ
fault_line is_colored path position message =
    colored_text is_colored faint_code (module_place_text path position) ++ colored_text is_colored red_code message ++ codes "\n"

-- that of one of these modules
abbrev pub unresolved_in : Bool → List (List ℕ) → List CrateFile → List ModuleData → Unresolved → List ℕ
unresolved_in is_colored reserved files ms u =
    let file = file_of_module ms u.parent in
    fault_line is_colored (file_path files file) (item_position (map placed_text files) file u.id)
    (unresolved_message (inner_path reserved (known_module_path (pathed_modules reserved ms) u.parent) u.name) u.reason u.paths)
