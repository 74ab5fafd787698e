-- The output of a request, and the sizes that refuse one.
use Rattle.std.specs.Prelude.{◌≡◌, ℕ, ◌+◌, ◌<◌, ◌≤◌, List, ◌++◌, length, take, Some, codes, decimal, slice_get}
use Rattle.std.specs.List.{flat_map, concat, AllZip}
use Rattle.item_tree.specs.Page.{page}
use Rattle.item_tree.specs.declared.fault.EditFault.{EditFault}
use Rattle.item_tree.specs.declared.fault.EditFault.TheVariants.{TooManyEdits, Lower}
use Rattle.item_tree.specs.declared.fault.LowerError.{LowerError}
use Rattle.item_tree.specs.declared.fault.LowerError.TheVariants.{OutOfMemory}
use Rattle.item_tree_db.specs.declared.place.Place.{Place}
use Rattle.item_tree_db.specs.declared.place.Place.TheVariants.{File, Block}
use Rattle.item_tree_db.specs.State.{State, IsKnown, new_table, unfolding_at, change_number}
use Rattle.item_tree_db.specs.Edits.{EditView}
use Rattle.item_tree_db.specs.History.{IsAfter}
use Rattle.item_tree_db.specs.Refusal.{last_number, FirstFit, PassesAfter}
use Rattle.item_tree_db.specs.Since.{Change, IsSince}
use Rattle.item_tree_request.specs.declared.request.show.Show.{Show}
use Rattle.item_tree_request.specs.declared.request.show.Show.TheVariants.{OfTree, Changed}
use Rattle.item_tree_request.specs.declared.request.show.TreeShow.{TreeShow}
use Rattle.item_tree_request.specs.declared.request.show.ShowKind.{ShowKind}
use Rattle.item_tree_request.specs.declared.request.show.ShowKind.TheVariants.{Page, Tree, Imports}
use Rattle.item_tree_request.specs.ImportLines.{import_lines}
use Rattle.item_tree_request.specs.Requests.{Request}

-- a file or a block, with its number
abbrev pub place_word : Place → List ℕ
place_word (File file) = codes "file " ++ decimal file.0
place_word (Block block) = codes "block " ++ decimal block.0

-- the line on a place and a crate, with the change number
unfoldable pub table_change_line : Change → List ℕ
table_change_line c = codes "crate " ++ decimal c.1.0 ++ codes " " ++ place_word c.0 ++ codes " change " ++ decimal c.2 ++ codes "\n"

-- ---- shows of a table

-- the line on a crate's tree of a place, with the number of the last edit that changed the tree
abbrev pub heading : State → TreeShow → List ℕ
heading u show = table_change_line (show.place, show.krate, change_number u show.place show.krate.0)

-- its page, under these reserved words
unfoldable pub page_text : List (List ℕ) → State → TreeShow → List ℕ
page_text reserved u show = page reserved (unfolding_at u show.place show.krate.0)

-- the lines of its imports
unfoldable pub imports_text : List (List ℕ) → State → TreeShow → List ℕ
imports_text reserved u show = import_lines reserved (unfolding_at u show.place show.krate.0).forest

-- of a tree the line and the page
abbrev pub printed_as : ShowKind → List (List ℕ) → State → TreeShow → List ℕ
printed_as Page reserved u show = page_text reserved u show
printed_as Tree reserved u show = heading u show ++ page_text reserved u show
printed_as Imports reserved u show = imports_text reserved u show

-- the text of a show of a tree
abbrev pub printed_show : List (List ℕ) → State → TreeShow → List ℕ
printed_show reserved u show = printed_as show.kind reserved u show

-- the lines of all changes since a number
abbrev pub AreChanges : State → ℕ → List ℕ → Type 0
AreChanges u since text = (changes : List Change) × IsSince u since changes × (text ≡ flat_map table_change_line changes)

-- ---- what a program writes

-- what a program writes of shows: under these reserved words, over a table, this text of a show
abbrev pub ShowText : Type 1
ShowText = List (List ℕ) → State → Show → List ℕ → Type 0

-- the text of a show: that of a tree, or the lines of all changes since a number
abbrev pub IsPrinted : ShowText
IsPrinted reserved u (OfTree show) text = text ≡ printed_show reserved u show
IsPrinted reserved u (Changed since) text = AreChanges u since text

-- the crate of a show of a tree is one of the table
abbrev pub Knows : State → Show → Type 0
Knows u (OfTree show) = IsKnown u show.krate
Knows u (Changed since) = Unit {0}

-- the edits fix the texts: two tables that the same edits lead to have the same ones
abbrev pub AreFixed : ShowText → Type 0
AreFixed IsText =
    (s u v : State) (edits : List EditView) → IsAfter s edits u → IsAfter s edits v
    → (reserved : List (List ℕ)) (show : Show) (text : List ℕ) → Knows s show → IsText reserved u show text → IsText reserved v show text

-- a text of some kind was added
abbrev pub IsAdded : (List ℕ → Type 0) → (old new : List ℕ) → Type 0
IsAdded IsText old new = (text : List ℕ) × IsText text × (new ≡ old ++ text)

-- ---- the output

-- the table before the first edit
abbrev pub first_table : Request → State
first_table q = new_table q.crates q.skipped q.start

-- the whole is a text of each, one after another
abbrev pub AreJoined : {A : Type 0} → (A → List ℕ → Type 0) → List A → List ℕ → Type 0
AreJoined IsText xs whole = (texts : List (List ℕ)) × AllZip IsText xs texts × (whole ≡ concat texts)

-- the edits of a request lead to a table, over which the whole is the texts of its shows, one after another
pub record IsOutput (IsText : ShowText) (q : Request) (whole : List ℕ) : Type 0 where
  pub table : State
  pub after : IsAfter (first_table q) q.edits table
  pub texts : AreJoined (IsText q.edition.1 table) q.shows whole

-- ---- sizes

-- none of the first n edits passes a size: their numbers are no higher than the last, and their trees fit
pub record NonePasses (s : State) (edits : List EditView) (n : ℕ) : Type 0 where
  pub numbers : s.number + n ≤ last_number
  pub trees : FirstFit s edits n

-- some tree that the edit, made after those, lowers passes this size, which memory is not
abbrev pub PassesSize : State → List EditView → EditView → LowerError → Type 0
PassesSize s before edit OutOfMemory = ⊥
PassesSize s before edit error = PassesAfter s before edit error

-- the edit at this place, counted from 0, passes this size: its number is past the last, or it has a number and its tree is too large
abbrev pub PassesAt : State → List EditView → ℕ → EditFault → Type 0
PassesAt s edits place TooManyEdits = (place < length edits) × (last_number < s.number + place + 1)
PassesAt s edits place (Lower error) = (s.number + place + 1 ≤ last_number) × ((edit : EditView) × (slice_get edits place ≡ Some edit) × PassesSize s (take place edits) edit error)
