-- Sessions, and what edits make of them.
use Rattle.std.specs.Prelude.{◌≡◌, ◌≢◌, ◌⊎◌, ℕ, ◌<◌, ◌≤◌, List, [], Option, Some, IfSome, length, take, slice_get, string_bytes}
use Rattle.hir_input.specs.declared.edition.EditionYear.{EditionYear}
use Rattle.hir_input.specs.Syntax.{SyntaxView}
use Rattle.item_tree.specs.CrateView.{CrateView}
use Rattle.item_tree.specs.declared.fault.EditFault.{EditFault}
use Rattle.item_tree.specs.declared.fault.EditFault.TheVariants.{TooManyEdits, Lower}
use Rattle.item_tree.specs.declared.fault.LowerError.TheVariants as lowering
use Rattle.item_tree_db.specs.declared.place.Place.TheVariants.{File}
use Rattle.item_tree_db.specs.State.{State, new_table, present}
use Rattle.item_tree_db.specs.Edits.{EditView}
use Rattle.item_tree_db.specs.History.{IsAfter}
use Rattle.item_tree_db.specs.Refusal.{FirstFit, IsCause, last_number}
use Rattle.decl_index.specs.Entries.{IndexView}
use Rattle.rust_items.specs.SourceFiles.{FileView}
use Rattle.text_session.specs.declared.error.EditError.{EditError}
use Rattle.text_session.specs.declared.error.EditError.TheVariants.{NotChanged, Refused, OutOfMemory}
use Rattle.text_session.specs.declared.splice.ChangeFault.{ChangeFault}
use Rattle.text_session.specs.declared.texts.SourceText.{SourceText}
use Rattle.text_session.specs.Edits.{TextEdit}
use Rattle.text_session.specs.Texts.{Texts, TextChange, IsKept, text_in, text_after, AreMeant, FailsAt}

-- an edition, a table of trees, and the texts of its files
pub record Session : Type 0 where
  -- the year, by which texts are read, and the reserved words
  pub edition : EditionYear × List (List ℕ)
  pub table : State
  pub texts : Texts

-- nothing set
abbrev pub new_session : List CrateView → List (List ℕ) → EditionYear × List (List ℕ) → ℕ → Session
new_session crates skipped edition start = record { edition = edition; table = new_table crates skipped start; texts = [] }

-- a session, and the index of its names as it was last refreshed
pub record Indexed : Type 0 where
  pub session : Session
  pub index : IndexView

-- ---- texts

-- the text is kept as lists read it in an edition, without the texts of bodies, and this is the syntax that was read
pub record IsSetTo (edition : EditionYear) (syntax : Option SyntaxView) (text : SourceText) : Type 0 where
  pub read : FileView
  pub is_kept : IsKept edition (string_bytes text.text) read text
  pub syntax_is : syntax ≡ Some read.syntax

-- so is each text, and that is the present syntax of its file
abbrev pub AreSetTo : EditionYear → State → Texts → Type 0
AreSetTo edition table texts = (file : ℕ) → IfSome (text_in texts file) (IsSetTo edition (present table (File (record { 0 = file }))))

-- ---- edits

-- these edits of the table, which leave this of the texts, lead from the session s to u
pub record AreMade (s : Session) (edits : List EditView) (changes : List TextChange) (u : Session) : Type 0 where
  pub edition : u.edition ≡ s.edition
  pub table : IsAfter s.table edits u.table
  pub texts : (file : ℕ) → text_in u.texts file ≡ text_after (text_in s.texts) changes file

-- all edits are made, and none passes a size: their numbers are no higher than the last, and their trees fit
pub record IsEdited (s : Session) (asked : List TextEdit) (u : Session) : Type 0 where
  pub edits : List EditView
  pub changes : List TextChange
  pub meant : AreMeant s.edition.0 (text_in s.texts) asked edits changes
  pub made : AreMade s edits changes u
  pub in_range : u.table.number ≤ last_number
  pub fits : FirstFit s.table edits (length edits)

-- the edits before this place are made, and none of them passes a size; the one there is refused by the table that they leave, for this cause, which is a size
pub record IsRefused (s : Session) (asked : List TextEdit) (u : Session) (place : ℕ) (cause : EditFault) : Type 0 where
  pub edits : List EditView
  pub changes : List TextChange
  pub meant : AreMeant s.edition.0 (text_in s.texts) asked edits changes
  pub made : AreMade s (take place edits) (take place changes) u
  pub in_range : u.table.number ≤ last_number
  pub fits : FirstFit s.table edits place
  pub edit : EditView
  pub found : slice_get edits place ≡ Some edit
  pub refused : IsCause u.table edit cause
  pub size : cause ≢ Lower lowering.OutOfMemory
  -- behind the last number there is no other cause
  pub full : u.table.number ≡ last_number → cause ≡ TooManyEdits

-- memory runs out: some of the edits are made, fewer than all, and none of them passes a size, or none is made
pub record IsStopped (s : Session) (asked : List TextEdit) (u : Session) : Type 0 where
  pub edits : List EditView
  pub changes : List TextChange
  pub count : ℕ
  pub meant : (count ≡ 0) ⊎ AreMeant s.edition.0 (text_in s.texts) asked edits changes
  pub made : AreMade s (take count edits) (take count changes) u
  pub rest : (count ≡ 0) ⊎ (count < length asked)
  pub in_range : (count ≡ 0) ⊎ (u.table.number ≤ last_number)
  pub fits : FirstFit s.table edits count

-- the edit at this place is the first that means nothing, for this reason, and nothing is made
abbrev pub IsUnchanged : Session → List TextEdit → Session → ℕ → ChangeFault → Type 0
IsUnchanged s asked u place cause = FailsAt s.edition.0 (text_in s.texts) asked place cause × (u ≡ s)

-- the edits are not all made, for this reason
abbrev pub IsUnedited : Session → List TextEdit → Session → EditError → Type 0
IsUnedited s asked u (Refused place cause) = IsRefused s asked u place cause
IsUnedited s asked u (NotChanged place cause) = IsUnchanged s asked u place cause
IsUnedited s asked u OutOfMemory = IsStopped s asked u
