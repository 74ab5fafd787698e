-- The reading of crates and of edits.
use Rattle.std.specs.Prelude.{ℕ, List, codes}
use Rattle.serde_json.specs.Data.{Data}
use Rattle.item_tree.specs.CrateView.{CrateView}
use Rattle.item_tree_db.specs.declared.place.Place.TheVariants.{File, Block}
use Rattle.item_tree_db.specs.Edits.{EditView, set, remove, set_cfg}
use Rattle.hir_input_json.specs.Reading.{Reading, right, here, under, ◌>>=◌}
use Rattle.hir_input_json.specs.Cfgs.{atom}
use Rattle.hir_input_json.specs.Forms.{required_at, on_word, wrong_at, number_form, number_below, text_form, object_members, list_at}
use Rattle.hir_input_json.specs.Syntaxes.{syntax, block_form}
use Rattle.hir_input_json.specs.Metas.{attrs_form}

-- a crate: the file of its root, the options that are set, and its attributes
abbrev pub crate_data : Data → Reading CrateView
crate_data d = do
  _ ← object_members d
  root ← number_form (codes "root") d
  options ← list_at atom (codes "cfg") d
  attrs ← attrs_form d
  right (record { root = record { 0 = root }; options = options; attrs = attrs })

-- a file set to a syntax
abbrev pub set_file_edit : Data → Reading EditView
set_file_edit d = do
  file ← number_form (codes "file") d
  s ← required_at (codes "syntax") syntax d
  right (set (File (record { 0 = file })) s)

-- a file removed
abbrev pub remove_file_edit : Data → Reading EditView
remove_file_edit d = do
  file ← number_form (codes "file") d
  right (remove (File (record { 0 = file })))

-- a block set to what else the edit has of a block
abbrev pub set_block_edit : Data → Reading EditView
set_block_edit d = do
  number ← number_form (codes "block") d
  s ← block_form d
  right (set (Block (record { 0 = number })) s)

-- a block removed
abbrev pub remove_block_edit : Data → Reading EditView
remove_block_edit d = do
  number ← number_form (codes "block") d
  right (remove (Block (record { 0 = number })))

-- the options of one of this many crates, none where they are absent
abbrev pub set_cfg_edit : ℕ → Data → Reading EditView
set_cfg_edit count d = do
  number ← number_form (codes "crate") d
  known ← under (codes "crate") (here (number_below count number))
  options ← list_at atom (codes "cfg") d
  right (set_cfg known options)

-- by the word for what an edit does
abbrev pub edit_by : ℕ → List ℕ → Data → Reading EditView
edit_by count word d =
    on_word word (codes "set_file") (set_file_edit d)
    (on_word word (codes "remove_file") (remove_file_edit d)
    (on_word word (codes "set_block") (set_block_edit d)
    (on_word word (codes "remove_block") (remove_block_edit d)
    (on_word word (codes "set_cfg") (set_cfg_edit count d)
    (wrong_at (codes "edit"))))))

-- an edit of a table of this many crates, by its word
abbrev pub edit : ℕ → Data → Reading EditView
edit count d = do
  _ ← object_members d
  word ← required_at (codes "edit") text_form d
  edit_by count word d
