-- The change numbers of a shelf, one after another.
use Rattle.std.specs.Prelude.{◌≡◌, Bool, ℕ, ◌+◌, ◌<◌, ◌≤◌, List, [], ◌∷◌, ◌++◌, drop, filter, length, map, nat_lt, Option, Some, IfSome, slice_get}
use Rattle.std.specs.BTreeSet.{BTreeSet, contains}
use Rattle.std.specs.BTreeMap.{is_at}
use Rattle.std.specs.List.{AllByRecursion, Contains, flat_map, list_any}
use Rattle.std.specs.Option.{option_map_or}
use Rattle.item_tree_db.specs.declared.place.Place.{Place}
use Rattle.item_tree_db.specs.declared.rows.Row.{Row}
use Rattle.item_tree_db.specs.declared.since.Chosen.{Chosen}
use Rattle.item_tree_db.specs.declared.since.Slots.{Slots}
use Rattle.item_tree_db.specs.declared.since.Slots.TheVariants.{All, Among}
use Rattle.item_tree_db.specs.PlaceOrder.{place_cmp}
use Rattle.item_tree_db.specs.Since.{Change}
use Rattle.item_tree_db.specs.Inner.Shelf.{Shelved, Places, placed_at}
use Rattle.item_tree_db.specs.State.{crate_limit}

-- places with their rows, as a walk meets them
abbrev pub Walk : Type 0
Walk = List (Place × List Row)

-- the rows of a place: none where it was never set
abbrev pub rows_in : Option Shelved → List Row
rows_in placed = option_map_or (λ p. p.rows) placed []

-- over all places
abbrev pub over_all : Places → Walk
over_all = map (λ slot. (slot.0, slot.1.rows))

-- over these
abbrev pub walk_over : Places → List Place → Walk
walk_over places = map (λ place. (place, rows_in (placed_at places place)))

-- over those that the code has chosen
abbrev pub chosen_walk : Chosen → Walk
chosen_walk chosen = walk_over chosen.shelf.now chosen.places

-- what the code has left of one
abbrev pub walk_of : Slots → Walk
walk_of (All entries) = over_all entries
walk_of (Among chosen) = chosen_walk chosen

-- of a place, from the crate i on
abbrev pub changes_from : Place → ℕ → List Row → List Change
changes_from place i [] = []
changes_from place i (row ∷ rows) = (place, record { 0 = i }, row.changed) ∷ changes_from place (i + 1) rows

-- of all its places
abbrev pub all_changes : Walk → List Change
all_changes = flat_map (λ slot. changes_from slot.0 0 slot.1)

-- those above a bound
abbrev pub late_changes : ℕ → List Change → List Change
late_changes above = filter (λ c. nat_lt above c.2)

-- of what a place has, crate i has this number
abbrev pub HasNumber : Option Shelved → ℕ → ℕ → Type 0
HasNumber placed i n = slice_get (map (λ row. row.changed) (rows_in placed)) i ≡ Some n

-- whether one of these is of a place
abbrev pub has_change : List Change → Place → Bool
has_change changes place = list_any (λ c. is_at (place_cmp c.0) place) changes

-- exactly the places of these
abbrev pub HoldChanged : List Change → BTreeSet Place → Type 0
HoldChanged changes places = (place : Place) → contains place_cmp places place ≡ has_change changes place

-- these hold each place that has a number above a bound
abbrev pub HoldNumbers : ℕ → Places → List Place → Type 0
HoldNumbers above places some = (place : Place) (i n : ℕ) → above < n → HasNumber (placed_at places place) i n → Contains some place

-- what is left of a place and the crates from i on, and of the places behind it
abbrev pub changes_left : ℕ → Place → ℕ → List Row → Walk → List Change
changes_left above place i rows slots = late_changes above (changes_from place i (drop i rows) ++ all_changes slots)

-- each place has no more rows than crates may be
abbrev pub HasFew : Walk → Type 0
HasFew = AllByRecursion (λ slot. length slot.1 ≤ crate_limit)

-- so has each of a shelf
abbrev pub HasFewRows : Places → Type 0
HasFewRows places = (place : Place) → IfSome (placed_at places place) (λ placed. length placed.rows ≤ crate_limit)
