-- Which places changed lately.
use Rattle.std.specs.Prelude.{◌⊎◌, ℕ, ◌<◌, ◌≤◌, max, List, [], ◌∷◌, IfSome, IsTrue, Contains}
use Rattle.std.specs.BTreeSet.{contains}
use Rattle.std.specs.Ordering.{nat_cmp, ordering_then}
use Rattle.std.specs.declared.cmp.Ordering.{Ordering}
use Rattle.item_tree_db.specs.declared.place.Place.{Place}
use Rattle.item_tree_db.specs.declared.recent.Recent.{Recent}
use Rattle.item_tree_db.specs.declared.rows.Row.{Row}
use Rattle.item_tree_db.specs.PlaceOrder.{place_cmp}
use Rattle.item_tree_db.specs.Inner.Shelf.{Places, placed_at}

-- in the order of the numbers, and then of the places
abbrev pub noted_cmp : ℕ × Place → ℕ × Place → Ordering
noted_cmp a b = ordering_then (nat_cmp a.0 b.0) (place_cmp a.1 b.1)

-- the place stands under the number or a greater one, or the number is one that may be missing
abbrev pub IsNoted : Recent → Place → ℕ → Type 0
IsNoted recent place n = (n ≤ recent.missing) ⊎ ((m : ℕ) × (n ≤ m) × IsTrue (contains noted_cmp recent.places (m, place)))

-- the places hold each that has a number above the bound
abbrev pub HoldsNoted : Recent → ℕ → List Place → Type 0
HoldsNoted recent bound places = (place : Place) (n : ℕ) → bound < n → IsNoted recent place n → Contains places place

-- the greatest change number of rows
abbrev pub newest_number : List Row → ℕ
newest_number [] = 0
newest_number (row ∷ rows) = max row.changed (newest_number rows)

-- that of each place is noted
abbrev pub AreNoted : Recent → Places → Type 0
AreNoted recent places = (place : Place) → IfSome (placed_at places place) (λ placed. IsNoted recent place (newest_number placed.rows))
