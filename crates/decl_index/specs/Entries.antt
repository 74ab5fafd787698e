-- Which names a table declares, and where.
use Rattle.std.specs.Prelude.{◌≡◌, ◌↔◌, ℕ, ◌≤◌, List, [], ◌∷◌, Option, Some, None, All, length, Contains, flat_map}
use Rattle.std.specs.List.Sorted.{IsStrictlySortedBy}
use Rattle.std.specs.Option.{option_map_or, unwrap_or}
use Rattle.hir_input.specs.declared.ids.Crate.{Crate}
use Rattle.item_tree.specs.Node.{Unfolding}
use Rattle.item_tree.specs.Reach.{all_ids}
use Rattle.item_tree.specs.Walk.{of_id}
use Rattle.item_tree_db.specs.declared.place.Place.{Place}
use Rattle.item_tree_db.specs.State.{State, IsKnown, unfolding_at, change_number}
use Rattle.item_tree_db.specs.Since.{Change, IsSince, HoldLate}
use Rattle.tree_walk.specs.Declarations.{node_name}
use Rattle.decl_index.specs.declared.entry.Entry.{Entry}
use Rattle.decl_index.specs.EntryOrder.{entry_cmp}

-- the name of the item of an id in a crate's tree of a place, if it has one
abbrev pub entry_name : State → Place → Crate → ℕ → Option (List ℕ)
entry_name s place krate i = of_id (unfolding_at s place krate.0) None node_name i

-- the entry tells of an item of the table: its crate is known, and its id stands for an item of this name
pub record IsDeclared (s : State) (e : Entry) : Type 0 where
  pub known : IsKnown s e.krate
  pub named : entry_name s e.place e.krate e.id ≡ Some e.name

-- exactly those of a table, each once and in order
pub record IsListing (s : State) (entries : List Entry) : Type 0 where
  pub declared : All (IsDeclared s) entries
  pub whole : (e : Entry) → IsDeclared s e → Contains entries e
  pub in_order : IsStrictlySortedBy entry_cmp entries

-- ---- an index

-- the number that the table had when the index was refreshed, if it ever was, and its entries
abbrev pub IndexView : Type 0
IndexView = Option ℕ × List Entry

-- the index of a table, as it is made from nothing
pub record IsIndexOf (s : State) (index : IndexView) : Type 0 where
  pub number : index.0 ≡ Some s.number
  pub listing : IsListing s index.1

-- entries that were read when the table had number n tell what they did of each tree that has not changed since
pub record AreAsOf (n : ℕ) (entries : List Entry) (s : State) : Type 0 where
  pub started : s.start ≤ n
  pub reached : n ≤ s.number
  pub unchanged : (e : Entry) → IsKnown s e.krate → change_number s e.place e.krate.0 ≤ n → Contains entries e ↔ IsDeclared s e

-- the index was never refreshed and is empty, or is that of the table as it was
abbrev pub IsBehind : IndexView → State → Type 0
IsBehind (None, entries) s = entries ≡ []
IsBehind (Some n, entries) s = AreAsOf n entries s

-- it is behind by no more than these places have: its entries are of known crates, and each tree that changed since is of one of the places
pub record IsBehindAt (index : IndexView) (places : List Place) (s : State) : Type 0 where
  pub behind : IsBehind index s
  pub known : All (λ e. IsKnown s e.krate) index.1
  pub late : HoldLate s (unwrap_or index.0 0) places

-- ---- how many entries the changed trees have

-- the item of an id, if it has this name
abbrev pub entry_of : Place → Crate → ℕ → List ℕ → Entry
entry_of place krate i name = record { name = name; place = place; krate = krate; id = i }

-- of an id of a tree that unfolds to u: one, if its item has a name
abbrev pub entries_by : Unfolding → Place → Crate → ℕ → List Entry
entries_by u place krate i = option_map_or (λ name. entry_of place krate i name ∷ []) (of_id u None node_name i) []

-- of a crate's tree of a place, in the order in which the items are written
abbrev pub entries_at : State → Place → Crate → List Entry
entries_at s place krate = let u = unfolding_at s place krate.0 in flat_map (entries_by u place krate) (all_ids u)

-- of trees that changed
abbrev pub entries_of : State → List Change → List Entry
entries_of s changes = flat_map (λ c. entries_at s c.0 c.1) changes

-- the trees that changed since a number have so many entries, items with a name
abbrev pub HasChanged : State → ℕ → ℕ → Type 0
HasChanged s n count = (changes : List Change) × IsSince s n changes × (count ≡ length (entries_of s changes))
