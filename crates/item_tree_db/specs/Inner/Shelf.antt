-- What a shelf has at each place.
use Rattle.std.specs.Prelude.{◌≡◌, ◌≢◌, ℕ, zero, suc, List, [], ◌∷◌, if◌then◌else◌, length, map, slice_get, Option, None, Some, IfSome, option_and_then, option_map, unwrap_or}
use Rattle.std.specs.List.Sorted.{IsStrictlySortedBy}
use Rattle.std.specs.BTreeMap.{is_at}
use Rattle.std.specs.Map.{lookup, keys_of}
use Rattle.hir_input.specs.Syntax.{SyntaxView}
use Rattle.item_tree.specs.CrateView.{CrateView}
use Rattle.item_tree_db.specs.declared.place.Place.{Place}
use Rattle.item_tree_db.specs.declared.rows.Row.{Row}
use Rattle.item_tree_db.specs.declared.source.Source.{Source}
use Rattle.item_tree_db.specs.PlaceOrder.{place_cmp}
use Rattle.item_tree_db.specs.Inner.Source.{source_place, source_syntax}
use Rattle.item_tree_db.specs.Inner.Settled.{settle_all, settled_row, clear_all, empty_row, fresh_row}

-- what a place has that was ever set
pub record Shelved : Type 0 where
  -- what is set at it now
  pub source : Option Source
  -- its tree and change number in each crate
  pub rows : List Row

-- a map as the list of its entries
abbrev pub Places : Type 0
Places = List (Place × Shelved)

abbrev pub placed_at : Places → Place → Option Shelved
placed_at places place = lookup (is_at (place_cmp place)) places

-- what is set at a place, of what it has
abbrev pub source_in : Option Shelved → Option Source
source_in = option_and_then (λ placed. placed.source)

abbrev pub syntax_in : Option Shelved → Option SyntaxView
syntax_in placed = option_map source_syntax (source_in placed)

-- crate i's row in what a place has: the empty tree where it was never set
abbrev pub row_in : ℕ → Option Shelved → ℕ → Row
row_in start placed i = unwrap_or (option_and_then (λ p. slice_get p.rows i) placed) (empty_row start)

-- ---- one place

-- the place has this, and the others have what they had
pub record HasPut (place : Place) (placed : Option Shelved) (old new : Places) : Type 0 where
  pub here : placed_at new place ≡ placed
  pub others : (other : Place) → other ≢ place → placed_at new other ≡ placed_at old other

-- its rows, after edit n brought these trees
abbrev pub rows_set : ℕ → ℕ → List Row → Option Shelved → List Row
rows_set start n fresh None = map (settled_row n (empty_row start)) fresh
rows_set start n fresh (Some placed) = settle_all n placed.rows fresh

-- edit n sets it, which brings these trees
abbrev pub set_to : ℕ → ℕ → Source → List Row → Option Shelved → Shelved
set_to start n source fresh placed = record { source = Some source; rows = rows_set start n fresh placed }

-- edit n removes it
abbrev pub take_out : ℕ → Shelved → Shelved
take_out n placed = record { source = None; rows = clear_all n placed.rows }

-- ---- one crate

-- a list with its element at place i changed
abbrev pub change_at : {A : Type 0} → ℕ → (A → A) → List A → List A
change_at i f [] = []
change_at zero f (x ∷ xs) = f x ∷ xs
change_at (suc i) f (x ∷ xs) = x ∷ change_at i f xs

-- edit n brings crate i this tree
abbrev pub recast_one : ℕ → ℕ → Row → Shelved → Shelved
recast_one n i fresh placed = record { source = placed.source; rows = change_at i (λ row. settled_row n row fresh) placed.rows }

-- what it brings a crate of what a place has
abbrev pub fresh_of : ℕ → List (List ℕ) → Option CrateView → Place → Shelved → Row
fresh_of n skipped krate place placed = fresh_row n skipped place krate (option_map source_syntax placed.source)

-- what a place has after these trees of places were brought to crate i, one after another
abbrev pub recast_each : ℕ → ℕ → List (Place × Row) → Place → Option Shelved → Option Shelved
recast_each n i [] place placed = placed
recast_each n i (fresh ∷ more) place placed = recast_each n i more place (if is_at (place_cmp place) fresh.0 then option_map (recast_one n i fresh.1) placed else placed)

-- ---- of all places

-- what is set at each is its own
abbrev pub AreOwn : Places → Type 0
AreOwn places = (place : Place) → IfSome (source_in (placed_at places place)) (λ source. source_place source ≡ place)

-- each that was ever set has a row for each crate
abbrev pub HasRows : ℕ → Places → Type 0
HasRows count places = (place : Place) → IfSome (placed_at places place) (λ placed. length placed.rows ≡ count)

-- as a map has them
abbrev pub IsInOrder : Places → Type 0
IsInOrder places = IsStrictlySortedBy place_cmp (keys_of places)
