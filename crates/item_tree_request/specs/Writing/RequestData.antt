-- The data of a request.
use Rattle.std.specs.Prelude.{ℕ, ◌+◌, ◌^◌, List, [], ◌∷◌, Bool, codes, Option, Some, option_map}
use Rattle.serde_json.specs.Data.{Data, number, unsigned, string, array, object, Items, no_items, item, no_members, member}
use Rattle.hir_input.specs.Cfg.{AtomView}
use Rattle.hir_input.specs.Syntax.{SyntaxView}
use Rattle.hir_input_json.specs.Editions.{EditionView}
use Rattle.hir_input_json.specs.Forms.{number_below}
use Rattle.hir_input_json.specs.Writing.Cfgs.{atom_data}
use Rattle.hir_input_json.specs.Writing.Literals.{year_number}
use Rattle.hir_input_json.specs.Writing.Parts.{each_data, name_data, whole_data, ◌>>=◌}
use Rattle.hir_input_json.specs.Writing.Syntaxes.{syntax_data}
use Rattle.item_tree_db.specs.declared.place.Place.{Place}
use Rattle.item_tree_db.specs.declared.place.Place.TheVariants.{File, Block}
use Rattle.item_tree_request.specs.declared.request.show.Show.{Show}
use Rattle.item_tree_request.specs.declared.request.show.Show.TheVariants.{OfTree, Changed}
use Rattle.item_tree_request.specs.Shows.{show_word}

-- ---- the objects, whose members are in the order of their keys

abbrev pub edition_object : ℕ → Items → Data
edition_object year words = object (member (codes "reserved") (array words) (member (codes "year") (number (unsigned year)) no_members))

abbrev pub crate_object : Items → Data
crate_object atoms = object (member (codes "cfg") (array atoms) (member (codes "root") (number (unsigned 0)) no_members))

abbrev pub edit_object : (file syntax : Data) → Data
edit_object file syntax = object (member (codes "edit") (string (codes "set_file")) (member (codes "file") file (member (codes "syntax") syntax no_members)))

abbrev pub file_object : (word : List ℕ) (krate file : Data) → Data
file_object word krate file = object (member (codes "crate") krate (member (codes "file") file (member (codes "show") (string word) no_members)))

abbrev pub block_object : (word : List ℕ) (krate block : Data) → Data
block_object word krate block = object (member (codes "block") block (member (codes "crate") krate (member (codes "show") (string word) no_members)))

abbrev pub changed_object : Data → Data
changed_object since = object (member (codes "show") (string (codes "changed")) (member (codes "since") since no_members))

abbrev pub request_object : (krate edition : Data) (edits shows skipped : Items) → Data
request_object krate edition edits shows skipped =
    object (member (codes "crates") (array (item krate no_items)) (member (codes "edition") edition (member (codes "edits") (array edits) (member (codes "shows") (array shows) (member (codes "skipped") (array skipped) no_members)))))

-- ---- parts

abbrev pub edition_data : EditionView → Option Data
edition_data e = option_map (edition_object (year_number e.0)) (each_data name_data e.1)

-- a file set to its syntax
abbrev pub edit_data : Bool → ℕ → SyntaxView → Option Data
edit_data bodies n s = do
  file ← whole_data (2 ^ 32) n
  d ← syntax_data bodies s
  Some (edit_object file d)

-- files set to syntaxes, numbered on from this
abbrev pub edits_data : Bool → ℕ → List SyntaxView → Option Items
edits_data bodies n [] = Some no_items
edits_data bodies n (s ∷ ss) = do
  d ← edit_data bodies n s
  ds ← edits_data bodies (n + 1) ss
  Some (item d ds)

-- of a crate that is written, by a place
abbrev pub place_show : List ℕ → Data → Place → Option Data
place_show word krate (File file) = option_map (file_object word krate) (whole_data (2 ^ 32) file.0)
place_show word krate (Block block) = option_map (block_object word krate) (whole_data (2 ^ 32) block.0)

-- a show of the only crate, whose number is 0
abbrev pub show_data : Show → Option Data
show_data (OfTree t) = do
  known ← number_below 1 t.krate.0
  place_show (show_word t.kind) (number (unsigned 0)) t.place
show_data (Changed since) = option_map changed_object (whole_data (2 ^ 64) since)

-- a request of one crate with these options, whose root is file 0, over files that are numbered from 0
abbrev pub request_data : Bool → List (List ℕ) → EditionView → List AtomView → List SyntaxView → List Show → Option Data
request_data bodies skipped edition options files shows = do
  names ← each_data name_data skipped
  language ← edition_data edition
  atoms ← each_data atom_data options
  edits ← edits_data bodies 0 files
  shown ← each_data show_data shows
  Some (request_object (crate_object atoms) language edits shown names)
