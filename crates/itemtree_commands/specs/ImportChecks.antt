-- What is told of the imports of a crate that are wrong.
use Rattle.std.specs.Prelude.{ℕ, Bool, if◌then◌else◌, List, [], codes, map, slice_get, Option, Some, None, option_and_then}
use Rattle.std.specs.Option.{option_map_or}
use Rattle.def_map.specs.declared.def_map.ResolvedImport.{ResolvedImport}
use Rattle.def_map.specs.declared.verdict.Verdict.{Verdict}
use Rattle.def_map.specs.declared.verdict.Verdict.TheVariants.{Unresolved, TooWide, Nameless, Unknown, Resolved}
use Rattle.line_index.specs.declared.Position.{Position}
use Rattle.module_tree.specs.declared.data.ModuleData.{ModuleData}
use Rattle.tree_walk.specs.Listed.{listed_import}
use Rattle.source_listing.specs.Uses.{PlacedText}
use Rattle.itemtree_commands.specs.ModuleLists.{CrateFile, placed_text, file_path, file_of_module, tree_position_in_text, fault_line}

abbrev pub unresolved_words : Bool → List ℕ
unresolved_words is_private = if is_private then codes "this import names what it does not see" else codes "this import leads to nothing"

-- what is wrong with an import, if anything is
abbrev pub fault_words : Verdict → Bool → Option (List ℕ)
fault_words Unresolved is_private = Some (unresolved_words is_private)
fault_words TooWide is_private = Some (codes "what this import names is seen by fewer than the import")
fault_words Nameless is_private = Some (codes "this import has no name")
fault_words Unknown is_private = None
fault_words Resolved is_private = None

-- where an import of a file stands
abbrev pub import_position : List PlacedText → ℕ → ResolvedImport → Option Position
import_position texts file import = option_and_then (tree_position_in_text import.item (listed_import import.«import»).index) (slice_get texts file)

-- the line of an import, by the texts of these files
abbrev pub placed_line : Bool → List ModuleData → List CrateFile → List PlacedText → ResolvedImport → List ℕ
placed_line is_colored ms files texts import =
    let file = file_of_module ms import.«module» in
    option_map_or (fault_line is_colored (file_path files file) (import_position texts file import)) (fault_words import.verdict import.is_private) []

abbrev pub wrong_import_line : Bool → List ModuleData → List CrateFile → ResolvedImport → List ℕ
wrong_import_line is_colored ms files import = placed_line is_colored ms files (map placed_text files) import
