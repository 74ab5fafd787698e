-- The table with its trees, and what an edit makes of it.
use Rattle.std.specs.Prelude.{◌≡◌, ℕ, ◌+◌, ◌<◌, ◌≤◌, List, length, map, Option, IfSome, slice_get, option_map, unwrap_or}
use Rattle.hir_input.specs.Syntax.{SyntaxView}
use Rattle.item_tree.specs.declared.crate_data.CrateData.{CrateData}
use Rattle.item_tree.specs.CrateView.{CrateView, crate_view}
use Rattle.item_tree.specs.Node.{Unfolding, nothing}
use Rattle.item_tree_db.specs.declared.place.Place.{Place}
use Rattle.item_tree_db.specs.declared.rows.Row.{Row}
use Rattle.item_tree_db.specs.Edits.{EditView}
use Rattle.item_tree_db.specs.History.{sets, gives, under_options}
use Rattle.item_tree_db.specs.Refusal.{TreeFits}
use Rattle.item_tree_db.specs.Inner.Settled.{settled_row, fresh_row}
use Rattle.item_tree_db.specs.Inner.Shelf.{Shelved, Places, placed_at, source_in, syntax_in, row_in, AreOwn, HasRows}
use Rattle.item_tree_db.specs.Inner.Source.{source_place, source_syntax}
use Rattle.item_tree_db.specs.State.{Held, State, unfolding_of, unfolding_at, change_number}

pub record Table : Type 0 where
  pub crates : List CrateView
  pub skipped : List (List ℕ)
  pub start : ℕ
  pub number : ℕ
  pub places : Places

abbrev pub table_from : List CrateData → List (List ℕ) → ℕ → ℕ → Places → Table
table_from crates skipped start number places = record { crates = map crate_view crates; skipped = skipped; start = start; number = number; places = places }

-- ---- without its trees

abbrev pub held_of : Shelved → Held
held_of placed = record { syntax = option_map source_syntax placed.source; changed = map (λ row. row.changed) placed.rows }

abbrev pub state_of : Table → State
state_of t = record { crates = t.crates; skipped = t.skipped; start = t.start; number = t.number; places = map (λ e. (e.0, held_of e.1)) t.places }

-- ---- by place and crate

-- the present syntax of a place
abbrev pub syntax_at : Table → Place → Option SyntaxView
syntax_at t place = syntax_in (placed_at t.places place)

-- its tree and change number in crate i
abbrev pub row_at : Table → Place → ℕ → Row
row_at t place i = row_in t.start (placed_at t.places place) i

-- the tree that its syntax fixes there
abbrev pub lowered_at : Table → Place → ℕ → Unfolding
lowered_at t place i = unfolding_of t.skipped place (slice_get t.crates i) (syntax_at t place)

-- the row has what callers see of the place in crate i
pub record IsRowOf (s : State) (place : Place) (i : ℕ) (row : Row) : Type 0 where
  pub tree : row.tree ≡ unfolding_at s place i
  pub changed : row.changed ≡ change_number s place i

-- each tree is what its syntax fixes and passes no size; no change number is above the number, and where one is not above the start, the tree is empty
pub record IsSound (t : Table) : Type 0 where
  pub own : AreOwn t.places
  pub rows : HasRows (length t.crates) t.places
  pub started : t.start ≤ t.number
  pub trees : (place : Place) (i : ℕ) → i < length t.crates → (row_at t place i).tree ≡ lowered_at t place i
  pub fits : (place : Place) (i : ℕ) → TreeFits t.skipped place (slice_get t.crates i) (syntax_at t place)
  pub bounded : (place : Place) (i : ℕ) → i < length t.crates → (row_at t place i).changed ≤ t.number
  pub grounded : (place : Place) (i : ℕ) → i < length t.crates → (row_at t place i).changed ≤ t.start → (row_at t place i).tree ≡ nothing

-- ---- one edit

abbrev pub next_number : Table → ℕ
next_number t = t.number + 1

-- the table after it, with these crates and places
abbrev pub next_table : Table → List CrateView → Places → Table
next_table t crates places = record { crates = crates; skipped = t.skipped; start = t.start; number = next_number t; places = places }

-- what a place has then, where it had `old`: each row is settled with the tree that the syntax then fixes, which passes no size
pub record IsLed (t : Table) (crates : List CrateView) (edit : EditView) (place : Place) (old new : Option Shelved) : Type 0 where
  pub own : IfSome (source_in new) (λ source. source_place source ≡ place)
  pub long : IfSome new (λ placed. length placed.rows ≡ length t.crates)
  pub syntax : syntax_in new ≡ unwrap_or (sets place edit) (syntax_in old)
  pub fits : (i : ℕ) → TreeFits t.skipped place (slice_get crates i) (syntax_in new)
  pub rows : (i : ℕ) → i < length t.crates → row_in t.start new i ≡ settled_row (next_number t) (row_in t.start old i) (fresh_row (next_number t) t.skipped place (slice_get crates i) (syntax_in new))

-- the edit leads from the table t to these crates and places
pub record IsStep (t : Table) (edit : EditView) (crates : List CrateView) (places : Places) : Type 0 where
  pub count : length crates ≡ length t.crates
  pub under_it : (i : ℕ) → slice_get crates i ≡ under_options (gives i edit) (slice_get t.crates i)
  pub led : (place : Place) → IsLed t crates edit place (placed_at t.places place) (placed_at places place)
