-- Words that private contracts alone cite.
use Rattle.std.specs.Prelude.{◌≡◌, ℕ, List, length, Option, Some, None, IsSome, IfSome, Result, Err, MatchResult}
use Rattle.hir_input.specs.declared.edition.EditionYear.{EditionYear}
use Rattle.item_tree_db.specs.State.{State}
use Rattle.source_rows.specs.Places.{AreDistinct}
use Rattle.decl_index.specs.Entries.{IndexView}
use Rattle.text_session.specs.declared.error.EditError.{EditError}
use Rattle.text_session.specs.declared.error.EditError.TheVariants.{NotChanged, Refused, OutOfMemory}
use Rattle.text_session.specs.declared.splice.ChangeFault.{ChangeFault}
use Rattle.text_session.specs.declared.texts.SourceText.{SourceText}
use Rattle.text_session.specs.Edits.{TextEdit}
use Rattle.text_session.specs.Sessions.{Session, AreSetTo, IsEdited, IsUnedited}
use Rattle.text_session.specs.Touched.{Touched, IsBehindBy}
use Rattle.text_session.specs.Texts.{Texts, TextChange, FileTexts, slot_in, text_in, Fails}

-- something is kept for a file
abbrev pub HasSlot : Texts → ℕ → Type 0
HasSlot texts file = IsSome (slot_in texts file)

-- there is room for the text that a change brings
abbrev pub HasSlotFor : Texts → TextChange → Type 0
HasSlotFor texts None = Unit {0}
HasSlotFor texts (Some (file, None)) = Unit {0}
HasSlotFor texts (Some (file, Some text)) = HasSlot texts file

-- the places of a text are those of items with different ids
abbrev pub IsPlaced : Option SourceText → Type 0
IsPlaced text = IfSome text (λ t. AreDistinct t.places.items)

-- so are those of what a change leaves
abbrev pub LeavesPlaced : TextChange → Type 0
LeavesPlaced change = IfSome change (λ c. IsPlaced c.1)

-- memory runs out, or the error tells what P says of its place and cause
abbrev pub TellsFault : (ℕ → ChangeFault → Type 0) → EditError → Type 0
TellsFault P (NotChanged place cause) = P place cause
TellsFault P OutOfMemory = Unit {0}
TellsFault P (Refused place cause) = ⊥

-- the edit at a place has this place, and its text is not changed for this reason
abbrev pub IsWhyUnchanged : Result (List ℕ) ChangeFault → ℕ → ℕ → ChangeFault → Type 0
IsWhyUnchanged changed at place cause = (place ≡ at) × (changed ≡ Err cause)

-- the edit at a place has this place, and means nothing over these texts for this reason
abbrev pub IsFailing : FileTexts → TextEdit → ℕ → ℕ → ChangeFault → Type 0
IsFailing texts l at place cause = (place ≡ at) × Fails texts l cause

-- the session of these parts
abbrev pub session_of : EditionYear × List (List ℕ) → State → Texts → Session
session_of edition table texts = record { edition = edition; table = table; texts = texts }

-- in each session of these the edits are all made, and lead to this table and these texts, or it is told why not
abbrev pub LeadsBy : EditionYear → State → Texts → List TextEdit → State → Texts → Result (Unit {0}) EditError → Type 0
LeadsBy edition s old asked u new result =
    (reserved : List (List ℕ)) → let over = session_of (edition, reserved) in
    MatchResult result (λ _. IsEdited (over s old) asked (over u new)) (IsUnedited (over s old) asked (over u new))

-- how the parts of a session belong together
pub record AreTogether (count : ℕ) (edition : EditionYear) (table : State) (texts : Texts) (index : IndexView) (touched : Touched) : Type 0 where
  pub crates : count ≡ length table.crates
  pub behind : IsBehindBy index touched table
  pub placed : (file : ℕ) → IsPlaced (text_in texts file)
  pub read : AreSetTo edition table texts
