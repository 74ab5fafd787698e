-- Why an edit is refused.
use Rattle.std.specs.Prelude.{◌≡◌, ◌⊎◌, ℕ, ◌<◌, ◌-◌, ◌^◌, List, [], length, take, Option, None, Some, IfSome, slice_get}
use Rattle.hir_input.specs.Syntax.{SyntaxView}
use Rattle.item_tree.specs.declared.fault.LowerError.{LowerError}
use Rattle.item_tree.specs.declared.fault.LowerError.TheVariants.{OutOfMemory}
use Rattle.item_tree.specs.declared.fault.EditFault.{EditFault}
use Rattle.item_tree.specs.declared.fault.EditFault.TheVariants.{TooManyEdits, Lower}
use Rattle.item_tree.specs.CrateView.{CrateView}
use Rattle.item_tree.specs.Size.{FitsWith, IsTooLarge}
use Rattle.item_tree_db.specs.declared.place.Place.{Place}
use Rattle.item_tree_db.specs.declared.edit.EditRefused.{EditRefused}
use Rattle.item_tree_db.specs.State.{State, kept_at}
use Rattle.item_tree_db.specs.Edits.{EditView, set, remove, set_cfg, edit_view}
use Rattle.item_tree_db.specs.History.{under_options, crate_after, present_after}

-- no edit has a number above this one
abbrev pub last_number : ℕ
last_number = 2 ^ 64 - 1

-- the crate that an edit names, if it names one, is of the list
abbrev pub NamesKnown : State → EditView → Type 0
NamesKnown s (set place syntax) = Unit {0}
NamesKnown s (remove place) = Unit {0}
NamesKnown s (set_cfg i options) = i < length s.crates

-- a crate's tree of a syntax passes no size; where there is no crate or no syntax, nothing is lowered
abbrev pub TreeFits : List (List ℕ) → Place → Option CrateView → Option SyntaxView → Type 0
TreeFits skipped place krate None = Unit {0}
TreeFits skipped place None (Some syntax) = Unit {0}
TreeFits skipped place (Some krate) (Some syntax) = FitsWith syntax (kept_at skipped place syntax krate)

-- it is lowered, and passes this size
abbrev pub TreePasses : List (List ℕ) → Place → Option CrateView → Option SyntaxView → LowerError → Type 0
TreePasses skipped place krate None error = ⊥
TreePasses skipped place None (Some syntax) error = ⊥
TreePasses skipped place (Some krate) (Some syntax) error = IsTooLarge syntax (kept_at skipped place syntax krate) error

-- no tree that the edit, made after those, lowers passes a size: of its place in each crate, or of each place in its crate under its options; a removal lowers nothing
abbrev pub FitsAfter : State → List EditView → EditView → Type 0
FitsAfter s before (set place syntax) = (i : ℕ) → TreeFits s.skipped place (crate_after s before i) (Some syntax)
FitsAfter s before (remove place) = Unit {0}
FitsAfter s before (set_cfg i options) = (place : Place) → TreeFits s.skipped place (under_options (Some options) (crate_after s before i)) (present_after s before place)

-- some tree that it lowers passes this size
abbrev pub PassesAfter : State → List EditView → EditView → LowerError → Type 0
PassesAfter s before (set place syntax) error = (i : ℕ) × TreePasses s.skipped place (crate_after s before i) (Some syntax) error
PassesAfter s before (remove place) error = ⊥
PassesAfter s before (set_cfg i options) error = (place : Place) × TreePasses s.skipped place (under_options (Some options) (crate_after s before i)) (present_after s before place) error

-- each of the first n edits fits, made after those before it
abbrev pub FirstFit : State → List EditView → ℕ → Type 0
FirstFit s edits n = (m : ℕ) → m < n → IfSome (slice_get edits m) (FitsAfter s (take m edits))

-- memory runs out, or this holds of the error
abbrev pub UnlessMemory : (LowerError → Type 0) → LowerError → Type 0
UnlessMemory P error = (error ≡ OutOfMemory) ⊎ P error

-- the table s may refuse the edit for this cause: a size that it passes, or out of memory; a removal for no other than its number
abbrev pub IsCause : State → EditView → EditFault → Type 0
IsCause s edit TooManyEdits = s.number ≡ last_number
IsCause s (remove place) (Lower error) = ⊥
IsCause s edit (Lower error) = UnlessMemory (PassesAfter s [] edit) error

-- a table may refuse an edit so
abbrev pub IsRefusal : State → EditRefused → Type 0
IsRefusal s refused = IsCause s (edit_view refused.edit) refused.cause
