-- What the imports of a crate lead to, as a list.
use Rattle.std.specs.Prelude.{ℕ, Bool, false, not, ◌&&◌, if◌then◌else◌, List, [], ◌∷◌, ◌++◌, codes, flat_map, is_some, map, slice_get, Option, Some, None, option_map, option_and_then}
use Rattle.std.specs.Option.{option_map_or, option_to_list}
use Rattle.def_map.specs.declared.def_map.ResolvedImport.{ResolvedImport}
use Rattle.def_map.specs.declared.targets.Target.{Target}
use Rattle.def_map.specs.declared.targets.Target.TheVariants.{Module, Item, Unseen}
use Rattle.def_map.specs.declared.verdict.Verdict.{Verdict}
use Rattle.def_map.specs.declared.verdict.Verdict.TheVariants.{Unresolved, TooWide, Nameless, Unknown, Resolved}
use Rattle.hir_input.specs.declared.ids.AstIdKind.TheVariants as kind
use Rattle.hir_input.specs.declared.ids.FileAstId.{FileAstId}
use Rattle.item_tree.specs.Imports.{Import}
use Rattle.line_index.specs.declared.Position.{Position}
use Rattle.line_index.specs.declared.Units.TheVariants.{Characters}
use Rattle.line_index.specs.Positions.{position_in}
use Rattle.list_forms.specs.Colors.{bold_code, colored_text, faint_code, red_code}
use Rattle.list_forms.specs.Lines.{column_number, line_number, value_line}
use Rattle.list_forms.specs.declared.lines.Form.{Form}
use Rattle.list_forms.specs.declared.lines.Form.TheVariants.{Line, Json}
use Rattle.module_tree.specs.declared.data.ModuleData.{ModuleData}
use Rattle.module_tree.specs.declared.data.ModuleId.{ModuleId}
use Rattle.rust_items.specs.declared.source_file.ItemPlace.{ItemPlace}
use Rattle.serde_json.specs.Data.{Data, array, string, object, no_members, member}
use Rattle.serde_json.specs.View.{items_of}
use Rattle.source_listing.specs.ImportTexts.{import_text}
use Rattle.source_listing.specs.Uses.{PlacedText}
use Rattle.source_rows.specs.Labels.{item_word, text_at_some}
use Rattle.source_rows.specs.Places.{place_of, stands_at}
use Rattle.tree_walk.specs.Listed.{listed_import}
use Rattle.itemtree_commands.specs.ImportChecks.{fault_words, import_position}
use Rattle.itemtree_commands.specs.ModuleLists.{CrateFile, Pathed, placed_text, known_module_path, pathed_modules, file_path, file_of_module, declaration, declaring_file, module_place_text, candidates_text}
use Rattle.itemtree_commands.specs.declared.import_entries.ImportLook.{ImportLook}

-- ---- where items are declared

-- an item where it is declared: its place, and its name as it is written
pub record DeclaredItem : Type 0 where
  pub position : Position
  pub name : List ℕ

abbrev pub written_item : List ℕ → ItemPlace → DeclaredItem
written_item text p = record { position = position_in Characters text (stands_at p); name = text_at_some text p.name }

-- the item of an id in a file
abbrev pub item_of_file : FileAstId → CrateFile → Option DeclaredItem
item_of_file id f = option_map (written_item f.text) (place_of id f.places)

-- and in the file of a number
abbrev pub item_of_files : List CrateFile → ℕ → FileAstId → Option DeclaredItem
item_of_files files file id = option_and_then (item_of_file id) (slice_get files file)

-- ---- what an import leads to

-- the word of its kind, its path in the crate, and where it is declared
pub record PlacedTarget : Type 0 where
  pub kind : List ℕ
  pub path : List ℕ
  pub file : List ℕ
  pub position : Option Position

abbrev pub item_name : Option DeclaredItem → List ℕ
item_name found = option_map_or (λ d. d.name) found []

abbrev pub item_spot : Option DeclaredItem → Option Position
item_spot found = option_map (λ d. d.position) found

-- where a module is declared in a file; the root stands at the top of its own
abbrev pub module_spot : List CrateFile → ℕ → Option FileAstId → Option Position
module_spot files file None = Some (record { line = 1; column = 1 })
module_spot files file (Some id) = item_spot (item_of_files files file id)

abbrev pub placed_module : List CrateFile → List ModuleData → Pathed → PlacedTarget
placed_module files ms p =
    let file = declaring_file ms p.0.parent p.0.file in
    record { kind = item_word kind.Module; path = p.1; file = file_path files file; position = module_spot files file (declaration p.0.origin) }

-- an item behind the path of the module that it is written in
abbrev pub placed_item : List CrateFile → List ModuleData → List Pathed → ModuleId → FileAstId → PlacedTarget
placed_item files ms ps m id =
    let file = file_of_module ms m in let found = item_of_files files file id in
    record { kind = item_word id.kind; path = known_module_path ps m ++ codes "::" ++ item_name found; file = file_path files file; position = item_spot found }

-- what is not seen has no place
abbrev pub placed_target : List CrateFile → List ModuleData → List Pathed → Target → List PlacedTarget
placed_target files ms ps (Module m) = option_to_list (option_map (placed_module files ms) (slice_get ps m.0))
placed_target files ms ps (Item m id) = placed_item files ms ps m id ∷ []
placed_target files ms ps Unseen = []

-- ---- what is told of an import

abbrev pub is_wrong : Verdict → Bool
is_wrong verdict = is_some (fault_words verdict false)

-- where something else is wrong with the files, what is missing may be what is damaged
abbrev pub verdict_if_whole : Bool → Verdict → Verdict
verdict_if_whole is_whole verdict = if is_whole then verdict else (if is_wrong verdict then Unknown else verdict)

-- an import: its file, where its use tree stands there, how a use of it alone would be written, and what it leads to
pub record ToldImport : Type 0 where
  pub file : List ℕ
  pub position : Option Position
  pub text : List ℕ
  pub verdict : Verdict
  pub is_private : Bool
  pub targets : List PlacedTarget

abbrev pub shown_import : List (List ℕ) → Import → List ℕ
shown_import reserved x = import_text reserved x.kind x.path x.alias

-- by the files, their texts, and the modules with their paths
abbrev pub told_import : List (List ℕ) → List CrateFile → List PlacedText → List ModuleData → List Pathed → Verdict → ResolvedImport → ToldImport
told_import reserved files texts ms ps verdict r =
    let file = file_of_module ms r.«module» in
    record {
      file = file_path files file;
      position = import_position texts file r;
      text = shown_import reserved (listed_import r.«import»);
      verdict = verdict;
      is_private = r.is_private;
      targets = flat_map (placed_target files ms ps) r.targets.items;
    }

abbrev pub unresolved_word : Bool → List ℕ
unresolved_word is_private = if is_private then codes "private" else codes "unresolved"

abbrev pub verdict_word : Verdict → Bool → List ℕ
verdict_word Resolved is_private = codes "resolved"
verdict_word Unknown is_private = codes "unknown"
verdict_word Unresolved is_private = unresolved_word is_private
verdict_word TooWide is_private = codes "too wide"
verdict_word Nameless is_private = codes "nameless"

-- ---- lines

abbrev pub target_text : PlacedTarget → List ℕ
target_text t = t.kind ++ codes " " ++ t.path

abbrev pub nothing_words : Bool → List ℕ
nothing_words is_private = if is_private then codes "nothing that it sees" else codes "nothing"

-- what stands behind the arrow: the targets, with commas between them, or a word
abbrev pub lead_text : Verdict → Bool → List PlacedTarget → List ℕ
lead_text Resolved is_private targets = candidates_text (map target_text targets)
lead_text Unresolved is_private targets = nothing_words is_private
lead_text Unknown is_private targets = verdict_word Unknown is_private
lead_text TooWide is_private targets = verdict_word TooWide is_private
lead_text Nameless is_private targets = verdict_word Nameless is_private

abbrev pub lead_line : Bool → ToldImport → List ℕ
lead_line is_colored t =
    colored_text is_colored faint_code (module_place_text t.file t.position) ++ colored_text is_colored bold_code t.text ++ codes " -> "
    ++ colored_text (is_colored && is_wrong t.verdict) red_code (lead_text t.verdict t.is_private t.targets) ++ codes "\n"

-- ---- objects

abbrev pub target_object : PlacedTarget → Data
target_object t =
    object
    (member (codes "column") (column_number t.position)
    (member (codes "file") (string t.file)
    (member (codes "kind") (string t.kind)
    (member (codes "line") (line_number t.position)
    (member (codes "path") (string t.path) no_members)))))

abbrev pub targets_form : List PlacedTarget → Data
targets_form targets = array (items_of (map target_object targets))

abbrev pub lead_object : ToldImport → Data
lead_object t =
    object
    (member (codes "column") (column_number t.position)
    (member (codes "file") (string t.file)
    (member (codes "import") (string t.text)
    (member (codes "line") (line_number t.position)
    (member (codes "targets") (targets_form t.targets)
    (member (codes "verdict") (string (verdict_word t.verdict t.is_private)) no_members))))))

-- ---- the list

abbrev pub told_entry : Form → ToldImport → List ℕ
told_entry (Line is_colored) t = lead_line is_colored t
told_entry Json t = value_line (lead_object t)

-- of an import, if it is listed, by the texts of the files and the modules with their paths
abbrev pub entry_if_listed : ImportLook → List (List ℕ) → List CrateFile → List PlacedText → List ModuleData → List Pathed → ResolvedImport → List ℕ
entry_if_listed look reserved files texts ms ps r =
    let verdict = verdict_if_whole look.is_whole r.verdict in
    if look.only_wrong && not (is_wrong verdict) then [] else told_entry look.form (told_import reserved files texts ms ps verdict r)

-- the line or the object of an import, with what it leads to, if it is listed
abbrev pub resolved_entry : ImportLook → List (List ℕ) → List ModuleData → List CrateFile → ResolvedImport → List ℕ
resolved_entry look reserved ms files r = entry_if_listed look reserved files (map placed_text files) ms (pathed_modules reserved ms) r
