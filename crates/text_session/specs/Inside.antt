-- Words of edits inside bodies, which private contracts alone cite.
use Rattle.std.specs.Prelude.{◌≡◌, ◌≤◌, ◌+◌, ℕ, Bool, true, false, List, [], ◌∷◌, length, map, Option, Some, None, Result, Ok, Err, IsCharBoundary, string_bytes}
use Rattle.std.specs.List.{list_all}
use Rattle.std.specs.String.{string_capacity, string_len}
use Rattle.std.specs.declared.alloc.AllocError.{AllocError}
use Rattle.std.specs.declared.alloc.Global.{Global}
use Rattle.std.specs.declared.string.String.{String}
use Rattle.hir_input.specs.declared.edition.EditionYear.{EditionYear}
use Rattle.item_tree_db.specs.declared.place.Place.{Place}
use Rattle.item_tree_db.specs.Again.{IsSetAgain}
use Rattle.item_tree_db.specs.Edits.{EditView}
use Rattle.item_tree_db.specs.History.{IsAfter, IsFooting}
use Rattle.item_tree_db.specs.Refusal.{FitsAfter, last_number}
use Rattle.item_tree_db.specs.State.{State}
use Rattle.rust_edits.specs.declared.shift.Shift.{Shift}
use Rattle.rust_edits.specs.Edits.{PlacesAreKept, ReadsMoved, has_item, has_place, shifted_item, shifted_place}
use Rattle.rust_paths.specs.declared.names.TextRange.{TextRange}
use Rattle.text_session.specs.declared.inside.Inside.{Inside}
use Rattle.text_session.specs.declared.texts.SourceText.{SourceText}
use Rattle.text_session.specs.Edits.{TextEdit}
use Rattle.text_session.specs.Inner.{IsPlaced, LeavesPlaced}
use Rattle.text_session.specs.Sessions.{AreSetTo}
use Rattle.text_session.specs.Texts.{AreMeant, TextChange, Texts, change_fault, spliced_text, text_after, text_in}

-- ---- a text in place

-- a text has room for this in the place of a range, or is made anew with it
abbrev pub HasRoom : String Global → TextRange → List ℕ → Option (String Global) → Type 0
HasRoom text range typed None = string_len text + length typed ≤ string_capacity text
HasRoom text range typed (Some made) = string_bytes made ≡ spliced_text (string_bytes text) range typed

-- a range of a text cuts no character, and can be replaced by this
pub record CanReplace (text : String Global) (range : TextRange) (typed : List ℕ) (made : Option (String Global)) : Type 0 where
  pub order : range.start ≤ range.end
  pub start : IsCharBoundary (string_bytes text) range.start
  pub end : IsCharBoundary (string_bytes text) range.end
  pub room : HasRoom text range typed made

-- a range of a text was replaced, and what was read of it was moved, if that has places in the new text; its problems and its mended text stay
pub record IsRetyped (range : TextRange) (typed : List ℕ) (shift : Shift) (old new : SourceText) : Type 0 where
  pub text : string_bytes new.text ≡ spliced_text (string_bytes old.text) range typed
  pub places : list_all (has_item shift) old.places.items ≡ true → new.places.items ≡ map (shifted_item shift) old.places.items
  pub use_trees : list_all (has_place shift) old.use_trees.items ≡ true → new.use_trees.items ≡ map (shifted_place shift) old.use_trees.items
  pub problems : new.problems.items ≡ old.problems.items
  pub mended : new.mended ≡ old.mended

-- so was the text of a file, if it has one
abbrev pub IsRetypedIf : TextRange → List ℕ → Shift → Option SourceText → Option SourceText → Type 0
IsRetypedIf range typed shift None new = new ≡ None
IsRetypedIf range typed shift (Some old) None = ⊥
IsRetypedIf range typed shift (Some old) (Some new) = IsRetyped range typed shift old new

-- ---- an edit

-- the text has no problem, the edit lies inside a body of it and brings none, and there is room for it
pub record IsInside (text : SourceText) (range : TextRange) (typed : List ℕ) (inside : Inside) : Type 0 where
  pub faultless : length text.problems.items ≡ 0
  pub fits : change_fault (string_bytes text.text) range typed ≡ None
  pub keeps : inside.edit.keeps_problems ≡ true
  pub reads : ReadsMoved text.places.items (string_bytes text.text) range typed inside.edit
  pub places : PlacesAreKept text.places.items (string_bytes text.text) range typed inside.edit.shift
  pub room : CanReplace text.text range typed inside.made

-- the edits are one, which is made: it leads from a table and texts to others, and fits
pub record IsMadeAlone (edition : EditionYear) (s : State) (old : Texts) (asked : List TextEdit) (u : State) (new : Texts) : Type 0 where
  pub edit : EditView
  pub change : TextChange
  pub meant : AreMeant edition (text_in old) asked (edit ∷ []) (change ∷ [])
  pub after : IsAfter s (edit ∷ []) u
  pub place : Place
  pub again : IsSetAgain s place u
  pub footing : IsFooting s u
  pub fits : FitsAfter s [] edit
  pub number : u.number ≤ last_number
  pub placed : LeavesPlaced change
  pub texts : (file : ℕ) → text_in new file ≡ text_after (text_in old) (change ∷ []) file

-- by whether something was made
abbrev pub IsMadeOrNot : Type 0 → Type 0 → Result Bool AllocError → Type 0
IsMadeOrNot made none (Ok true) = made
IsMadeOrNot made none (Ok false) = none
IsMadeOrNot made none (Err e) = none

-- in whichever edition the texts were read, the edits are one and made, or nothing is
abbrev pub MakesAlone : State → Texts → List TextEdit → State → Texts → Result Bool AllocError → Type 0
MakesAlone s old asked u new result =
    (edition : EditionYear) → AreSetTo edition s old → ((file : ℕ) → IsPlaced (text_in old file))
    → IsMadeOrNot (IsMadeAlone edition s old asked u new) ((u ≡ s) × (new ≡ old)) result
