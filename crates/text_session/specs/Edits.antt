-- Edits of a session.
use Rattle.std.specs.Prelude.{ℕ, List, string_bytes}
use Rattle.item_tree_db.specs.Edits as table
use Rattle.item_tree_db.specs.Refusal.{NamesKnown}
use Rattle.item_tree_db.specs.State.{State}
use Rattle.rust_paths.specs.declared.names.TextRange.{TextRange}
use Rattle.text_session.specs.declared.edit.TextEdit as code
use Rattle.text_session.specs.declared.edit.TextEdit.TheVariants.{Table, SetText, ChangeText}

-- an edit of a session: one of its table, a file set to what is read of a text, or a range of the text of a file replaced
pub data TextEdit : Type 0 where
  of_table : table.EditView → TextEdit
  set_text : ℕ → List ℕ → TextEdit
  change_text : ℕ → TextRange → List ℕ → TextEdit

-- the crate that it names, if it names one, is one of the table
abbrev pub NamesCrateOf : State → TextEdit → Type 0
NamesCrateOf s (of_table e) = NamesKnown s e
NamesCrateOf s (set_text file text) = Unit {0}
NamesCrateOf s (change_text file range text) = Unit {0}

-- an edit of a session as plain data
abbrev pub text_edit_view : code.TextEdit → TextEdit
text_edit_view (Table e) = of_table (table.edit_view e)
text_edit_view (SetText file text) = set_text file.0 (string_bytes text)
text_edit_view (ChangeText file range text) = change_text file.0 range (string_bytes text)
