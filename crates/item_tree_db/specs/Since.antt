-- What changed since a number.
use Rattle.std.specs.Prelude.{◌≡◌, ℕ, ◌<◌, ◌≤◌, List, length, All, AllPairs, Contains}
use Rattle.std.specs.declared.cmp.Ordering.{Ordering}
use Rattle.std.specs.declared.cmp.Ordering.TheVariants.{Less}
use Rattle.std.specs.Ordering.{nat_cmp, on, then_cmp}
use Rattle.hir_input.specs.declared.ids.Crate.{Crate}
use Rattle.item_tree.specs.Node.{nothing}
use Rattle.item_tree_db.specs.declared.place.Place.{Place}
use Rattle.item_tree_db.specs.PlaceOrder.{place_cmp}
use Rattle.item_tree_db.specs.State.{State, IsKnown, unfolding_at, change_number}

-- a place and a crate, with a change number
abbrev pub Change : Type 0
Change = Place × Crate × ℕ

-- in the order of places, and then of crates
abbrev pub change_cmp : Change → Change → Ordering
change_cmp = then_cmp (on (λ c. c.0) place_cmp) (on (λ c. c.1.0) nat_cmp)

-- the change number of a place in a known crate, above n and above the start
pub record IsLate (s : State) (n : ℕ) (c : Change) : Type 0 where
  pub known : IsKnown s c.1
  pub number : c.2 ≡ change_number s c.0 c.1.0
  pub above : n < c.2
  pub above_start : s.start < c.2

-- what an index starts from: no change number is above the number, and a tree whose number is not above the start is empty
pub record IsGrounded (s : State) : Type 0 where
  pub started : s.start ≤ s.number
  pub bounded : (place : Place) (i : ℕ) → i < length s.crates → change_number s place i ≤ s.number
  pub empty : (place : Place) (i : ℕ) → i < length s.crates → change_number s place i ≤ s.start → unfolding_at s place i ≡ nothing

-- exactly those, each once and in order
pub record IsSince (s : State) (n : ℕ) (changes : List Change) : Type 0 where
  pub late : All (IsLate s n) changes
  pub whole : (c : Change) → IsLate s n c → Contains changes c
  pub in_order : AllPairs (λ c d. change_cmp c d ≡ Less) changes

-- those of them that are of these places
pub record IsSinceAmong (s : State) (n : ℕ) (places : List Place) (changes : List Change) : Type 0 where
  pub late : All (λ c. IsLate s n c × Contains places c.0) changes
  pub whole : (c : Change) → IsLate s n c → Contains places c.0 → Contains changes c
  pub in_order : AllPairs (λ c d. change_cmp c d ≡ Less) changes

-- all of them are of these places
abbrev pub HoldLate : State → ℕ → List Place → Type 0
HoldLate s n places = (c : Change) → IsLate s n c → Contains places c.0

-- exactly the places of all of them
pub record ArePlacesSince (s : State) (n : ℕ) (places : List Place) : Type 0 where
  pub late : All (λ place. (c : Change) × IsLate s n c × (c.0 ≡ place)) places
  pub whole : HoldLate s n places
