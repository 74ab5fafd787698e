-- For the crate's own functions: how entries are held, which are read, and which are gone.
use Rattle.std.specs.Prelude.{◌≡◌, ℕ, Bool, false, true, nat_lt, nat_eq, List, [], ◌∷◌, All, Contains, String, length, if◌then◌else◌, flat_map, unwrap_or}
use Rattle.std.specs.declared.alloc.Global.{Global}
use Rattle.std.specs.declared.cmp.Ordering.{Ordering}
use Rattle.std.specs.BTreeMap.{BTreeMap, get, get_by_text, is_at, values}
use Rattle.std.specs.BTreeMap as map
use Rattle.std.specs.BTreeSet.{BTreeSet, contains, IsOrdered}
use Rattle.std.specs.Cmp.Lexicographic.{pointwise}
use Rattle.std.specs.List.{list_any}
use Rattle.std.specs.Option.{option_map_or}
use Rattle.std.specs.Ordering.{nat_cmp, ordering_then}
use Rattle.std.specs.String.{string_cmp}
use Rattle.hir_input.specs.declared.ids.Crate.{Crate}
use Rattle.item_tree_db.specs.declared.place.Place.{Place}
use Rattle.item_tree_db.specs.PlaceOrder.{place_cmp}
use Rattle.item_tree_db.specs.State.{State}
use Rattle.item_tree_db.specs.Since.{Change, IsGrounded, IsSince}
use Rattle.decl_index.specs.declared.entry.Entry.{Entry}
use Rattle.decl_index.specs.Entries.{entries_of, entry_name}
use Rattle.decl_index.specs.EntryOrder.{entry_cmp}

-- the entries are those of all trees that changed since number n
pub record AreChangedEntries (s : State) (n : ℕ) (entries : List Entry) : Type 0 where
  pub changes : List Change
  pub since : IsSince s n changes
  pub grounded : IsGrounded s
  pub items : entries ≡ entries_of s changes

-- whether an entry is among some
abbrev pub is_entry_among : Entry → List Entry → Bool
is_entry_among q entries = list_any (λ e. is_at (entry_cmp e) q) entries

-- ---- entries by their names

abbrev pub Shelves : Type 0
Shelves = BTreeMap (String Global) (BTreeSet Entry)

-- the shelf of a name
abbrev pub shelf_at : Shelves → List ℕ → BTreeSet Entry
shelf_at shelves name = unwrap_or (get_by_text shelves name) (record { keys = [] })

-- whether an entry stands on the shelf of its name
abbrev pub is_shelved : Shelves → Entry → Bool
is_shelved shelves e = contains entry_cmp (shelf_at shelves e.name) e

-- what stands on all shelves, one after the other
abbrev pub shelf_entries : Shelves → List Entry
shelf_entries shelves = flat_map (λ (shelf : BTreeSet Entry). shelf.keys) (values shelves)

-- the entries on the shelf of a name have it, and are in order
pub record IsShelfOf (name : List ℕ) (shelf : BTreeSet Entry) : Type 0 where
  pub named : All (λ e. e.name ≡ name) shelf.keys
  pub in_order : IsOrdered entry_cmp shelf

-- so of each shelf, and the shelves are in the order of the names
pub record AreShelved (shelves : Shelves) : Type 0 where
  pub in_order : map.IsOrdered string_cmp shelves
  pub each : (name : List ℕ) → IsShelfOf name (shelf_at shelves name)

-- ---- entries by their trees

-- in the order of the places, and then of the crates
abbrev pub tree_cmp : Place × ℕ → Place × ℕ → Ordering
tree_cmp a b = ordering_then (place_cmp a.0 b.0) (nat_cmp a.1 b.1)

abbrev pub FiledTrees : Type 0
FiledTrees = BTreeMap (Place × ℕ) (BTreeSet Entry)

-- what is held of a crate's tree of a place
abbrev pub filed_at : FiledTrees → Place → ℕ → BTreeSet Entry
filed_at trees place i = unwrap_or (get tree_cmp trees (place, i)) (record { keys = [] })

-- whether an entry is held of its tree
abbrev pub is_filed : FiledTrees → Entry → Bool
is_filed trees e = contains entry_cmp (filed_at trees e.place e.krate.0) e

-- ---- both

-- what stands on a shelf is held of its tree
pub record IsCatalog (shelves : Shelves) (trees : FiledTrees) (spare : List Entry) : Type 0 where
  pub shelved : AreShelved shelves
  pub filed : (e : Entry) → is_shelved shelves e ≡ true → is_filed trees e ≡ true
  pub empty : spare ≡ []

-- ---- what is gone

-- whether the table declares what an entry tells
abbrev pub is_declared : State → Entry → Bool
is_declared s e = if nat_lt e.krate.0 (length s.crates) then option_map_or (pointwise nat_eq e.name) (entry_name s e.place e.krate e.id) false else false

-- the entry, if it is gone
abbrev pub gone_by : State → Entry → List Entry
gone_by s e = if is_declared s e then [] else e ∷ []

-- those of a tree
abbrev pub gone_at : State → FiledTrees → Place → Crate → List Entry
gone_at s trees place krate = flat_map (gone_by s) (filed_at trees place krate.0).keys

-- those of old entries that the table does not declare
pub record AreGone (s : State) (old gone : List Entry) : Type 0 where
  pub lost : All (λ e. is_declared s e ≡ false) gone
  pub all : (e : Entry) → Contains old e → is_declared s e ≡ false → Contains gone e

-- the entry's tree is one of those that changed
abbrev pub IsOfOne : List Change → Entry → Type 0
IsOfOne changes e = (c : Change) × Contains changes c × (c.0 ≡ e.place) × (c.1 ≡ e.krate)
