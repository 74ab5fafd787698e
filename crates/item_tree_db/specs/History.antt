-- Whole histories: what stands after a list of edits.
use Rattle.std.specs.Prelude.{◌≡◌, ◌≢◌, ◌⊎◌, ℕ, zero, suc, ◌+◌, ◌<◌, ◌≤◌, ◌==◌, List, [], ◌∷◌, length, take, Option, None, Some, Bool, not, if◌then◌else◌, option_map, slice_get, All, IfSome}
use Rattle.std.specs.Option.{option_or, unwrap_or}
use Rattle.hir_input.specs.Cfg.{AtomView}
use Rattle.hir_input.specs.Syntax.{SyntaxView}
use Rattle.hir_input.specs.Bodies.{without_bodies}
use Rattle.item_tree.specs.CrateView.{CrateView}
use Rattle.item_tree.specs.Node.{Unfolding}
use Rattle.item_tree.specs.Code.Node.{unfolding_code}
use Rattle.item_tree.specs.Same.{same}
use Rattle.item_tree_db.specs.declared.place.Place.{Place}
use Rattle.item_tree_db.specs.PlaceOrder.{same_place}
use Rattle.item_tree_db.specs.State.{State, with_cfg, present, unfolding_of, unfolding_at, change_number}
use Rattle.item_tree_db.specs.Edits.{EditView, set, remove, set_cfg}

-- what the last element has that has any
abbrev pub last_some : {A B : Type 0} → (A → Option B) → List A → Option B
last_some f [] = None
last_some f (x ∷ xs) = option_or (last_some f xs) (f x)

-- the last number below n that passes
abbrev pub last_number_below : (ℕ → Bool) → ℕ → Option ℕ
last_number_below p zero = None
last_number_below p (suc n) = if p n then Some n else last_number_below p n

-- the syntax that an edit leaves at a place, if it sets or removes that place
abbrev pub sets : Place → EditView → Option (Option SyntaxView)
sets place (set at syntax) = if same_place at place then Some (Some syntax) else None
sets place (remove at) = if same_place at place then Some None else None
sets place (set_cfg k options) = None

-- the options that an edit gives crate i, if it gives it any
abbrev pub gives : ℕ → EditView → Option (List AtomView)
gives i (set at syntax) = None
gives i (remove at) = None
gives i (set_cfg k options) = if k == i then Some options else None

-- a crate of the list under the options that it is given, if it is given any
abbrev pub under_options : Option (List AtomView) → Option CrateView → Option CrateView
under_options None krate = krate
under_options (Some options) krate = option_map (with_cfg options) krate

-- ---- after the edits

-- the present syntax of a place: what the last edit leaves that sets or removes the place
abbrev pub present_after : State → List EditView → Place → Option SyntaxView
present_after s edits place = unwrap_or (last_some (sets place) edits) (present s place)

-- crate i under its present options: those that the last edit gives it that gives it any
abbrev pub crate_after : State → List EditView → ℕ → Option CrateView
crate_after s edits i = under_options (last_some (gives i) edits) (slice_get s.crates i)

-- what the place's tree in crate i unfolds to
abbrev pub unfolding_after : State → List EditView → Place → ℕ → Unfolding
unfolding_after s edits place i = unfolding_of s.skipped place (crate_after s edits i) (present_after s edits place)

-- whether the edit at position n, counted from 0, made the unfolding another
abbrev pub moves : State → List EditView → Place → ℕ → ℕ → Bool
moves s edits place i n = not (same unfolding_code (unfolding_after s (take n edits) place i) (unfolding_after s (take (suc n) edits) place i))

-- the number of the last edit that did, or else what it was; the edit at position n has the table's number and n + 1
abbrev pub changed_after : State → List EditView → Place → ℕ → ℕ
changed_after s edits place i = unwrap_or (option_map (λ n. s.number + n + 1) (last_number_below (moves s edits place i) (length edits))) (change_number s place i)

-- ---- the change number without a test

-- c is the number of the edit at position n, the last one at which the unfolding became another
pub record IsLastMove (s : State) (edits : List EditView) (place : Place) (i c n : ℕ) : Type 0 where
  pub in_list : n < length edits
  pub number : c ≡ s.number + n + 1
  pub moved : unfolding_after s (take n edits) place i ≢ unfolding_after s (take (suc n) edits) place i
  pub still : (m : ℕ) → n < m → m < length edits → unfolding_after s (take m edits) place i ≡ unfolding_after s (take (suc m) edits) place i

-- c is what it was, and the unfolding became another at no edit
pub record IsUnmoved (s : State) (edits : List EditView) (place : Place) (i c : ℕ) : Type 0 where
  pub number : c ≡ change_number s place i
  pub still : (m : ℕ) → m < length edits → unfolding_after s (take m edits) place i ≡ unfolding_after s (take (suc m) edits) place i

abbrev pub IsChangeNumber : State → List EditView → Place → ℕ → ℕ → Type 0
IsChangeNumber s edits place i c = IsUnmoved s edits place i c ⊎ ((n : ℕ) × IsLastMove s edits place i c n)

-- ---- tables

-- the edits lead from the table s to the table u
pub record IsAfter (s : State) (edits : List EditView) (u : State) : Type 0 where
  pub number : u.number ≡ s.number + length edits
  pub start : u.start ≡ s.start
  pub count : length u.crates ≡ length s.crates
  pub crates : (i : ℕ) → slice_get u.crates i ≡ crate_after s edits i
  pub skipped : u.skipped ≡ s.skipped
  pub syntaxes : (place : Place) → present u place ≡ present_after s edits place
  pub unfoldings : (place : Place) (i : ℕ) → i < length s.crates → unfolding_at u place i ≡ unfolding_after s edits place i
  pub changes : (place : Place) (i : ℕ) → i < length s.crates → change_number u place i ≡ changed_after s edits place i

-- what an index of the trees rests on: no change number is above the number, and a tree whose number is not above the one before has it from there, and is the same
pub record IsFooting (s u : State) : Type 0 where
  pub bounded : (place : Place) (i : ℕ) → i < length s.crates → change_number u place i ≤ u.number
  pub numbers : (place : Place) (i : ℕ) → i < length s.crates → change_number u place i ≤ s.number → change_number u place i ≡ change_number s place i
  pub trees : (place : Place) (i : ℕ) → i < length s.crates → change_number u place i ≤ s.number → unfolding_at u place i ≡ unfolding_at s place i

-- the edit changes no more of the place in crate i than body texts: it leaves the syntax but for them and the crate as it is, or is one of another place or crate
pub record ChangesBodiesOnly (s : State) (place : Place) (i : ℕ) (edit : EditView) : Type 0 where
  pub syntax : IfSome (sets place edit) (λ left. option_map without_bodies left ≡ option_map without_bodies (present s place))
  pub krate : IfSome (gives i edit) (λ options. under_options (Some options) (slice_get s.crates i) ≡ slice_get s.crates i)

-- edits that lead from s to u, and change no more of a place in a crate than body texts, do not move its change number
abbrev pub IgnoresBodies : State → List EditView → State → Type 0
IgnoresBodies s edits u = (place : Place) (i : ℕ) → i < length s.crates → All (ChangesBodiesOnly s place i) edits → change_number u place i ≡ change_number s place i
