-- The edits of a line.
use Rattle.std.specs.Prelude.{ℕ, ◌^◌, ◌≤◌, nat_lt, List, [], length, codes, decimal, string_bytes, if◌then◌else◌, Option, Some, None}
use Rattle.serde_json.specs.Data.{Data, Items, no_items, item}
use Rattle.serde_json.specs.Written.{has_float}
use Rattle.hir_input_json.specs.Reading.{Reading, right, wrong, reading_map, here, under, ◌>>=◌}
use Rattle.hir_input_json.specs.Forms.{required_at, on_word, number_form, whole_form, text_form, array_items, object_members}
use Rattle.item_tree_request.specs.Edits as request
use Rattle.item_tree_request.specs.Named.{EditNamesCrate}
use Rattle.rust_paths.specs.declared.names.TextRange.{TextRange}
use Rattle.source_session.specs.declared.keys.LineObject.TheVariants.{OfEdits}
use Rattle.source_session.specs.Keys.{only_known}
use Rattle.text_session.specs.declared.edit.TextEdit as code
use Rattle.text_session.specs.declared.edit.TextEdit.TheVariants.{Table, SetText, ChangeText}
use Rattle.text_session.specs.Edits.{TextEdit, of_table, set_text, change_text}

-- so many bytes as the ids of items are distinct for
abbrev pub IsShort : List ℕ → Type 0
IsShort text = length text ≤ 2 ^ 32

-- the text, if it is short
abbrev pub if_short : List ℕ → Option (List ℕ)
if_short text = if nat_lt (2 ^ 32) (length text) then None else Some text

-- a text that is short
abbrev pub short_text : Data → Reading (List ℕ)
short_text d = do
  s ← text_form d
  here (if_short s)

-- a file set to a text
abbrev pub text_edit : Data → Reading TextEdit
text_edit d = do
  file ← number_form (codes "file") d
  written ← required_at (codes "text") short_text d
  right (set_text file written)

-- a list of just the two ends
abbrev pub range_in : Items → Reading TextRange
range_in no_items = wrong []
range_in (item a no_items) = wrong []
range_in (item a (item b no_items)) = do
  start ← under (decimal 0) (whole_form (2 ^ 64) a)
  end ← under (decimal 1) (whole_form (2 ^ 64) b)
  right (record { start = start; end = end })
range_in (item a (item b (item c ds))) = wrong []

-- a range of a text
abbrev pub range : Data → Reading TextRange
range d = do
  ds ← array_items d
  range_in ds

-- a range of the text of a file replaced
abbrev pub change_edit : Data → Reading TextEdit
change_edit d = do
  file ← number_form (codes "file") d
  place ← required_at (codes "range") range d
  written ← required_at (codes "text") short_text d
  right (change_text file place written)

-- an edit of a table of this many crates, by its word
abbrev pub edit_form : ℕ → Data → Reading TextEdit
edit_form count d = do
  _ ← object_members d
  _ ← only_known OfEdits d
  word ← required_at (codes "edit") text_form d
  on_word word (codes "set_text") (text_edit d) (on_word word (codes "change_text") (change_edit d) (reading_map of_table (request.edit count d)))

-- the same of a value without a float
abbrev pub line_edit : ℕ → Data → Reading TextEdit
line_edit count d = if has_float d then wrong [] else edit_form count d

-- ---- what was read

-- a crate that it names is one of this many, and a text is short
abbrev pub IsUsable : ℕ → code.TextEdit → Type 0
IsUsable count (Table e) = EditNamesCrate count e
IsUsable count (SetText file text) = IsShort (string_bytes text)
IsUsable count (ChangeText file range text) = IsShort (string_bytes text)
