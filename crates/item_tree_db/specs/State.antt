-- What callers see of a table: no trees, since the present syntaxes fix them.
use Rattle.std.specs.Prelude.{ℕ, ◌<◌, ◌==◌, Bool, false, List, [], length, take, Option, None, Some, slice_get, option_and_then, option_map, unwrap_or}
use Rattle.std.specs.FinMap as map
use Rattle.hir_input.specs.Cfg.{AtomView}
use Rattle.hir_input.specs.declared.ids.Crate.{Crate}
use Rattle.hir_input.specs.Syntax.{SyntaxView}
use Rattle.item_tree.specs.CrateView.{CrateView}
use Rattle.item_tree.specs.Node.{Unfolding, nothing}
use Rattle.item_tree.specs.Kept.{kept_syntax}
use Rattle.item_tree_db.specs.declared.sources.TheConstants.{CRATE_LIMIT}
use Rattle.item_tree_db.specs.declared.place.Place.{Place}
use Rattle.item_tree_db.specs.declared.place.Place.TheVariants.{File, Block}
use Rattle.item_tree_db.specs.PlaceOrder.{place_cmp}

-- what is held of a place that was ever set
pub record Held : Type 0 where
  -- its present syntax
  pub syntax : Option SyntaxView
  -- its change number in each crate
  pub changed : List ℕ

-- a table of trees as callers see it: its crates, files and blocks, without trees
pub record State : Type 0 where
  -- in the order of their numbers, from 0, each with its present options
  pub crates : List CrateView
  -- the names of attributes that no tree has
  pub skipped : List (List ℕ)
  -- the number before the first edit
  pub start : ℕ
  -- the number of the last edit
  pub number : ℕ
  -- the places that were ever set, in their order
  pub places : List (Place × Held)

-- how many crates have a number
abbrev pub crate_limit : ℕ
crate_limit = CRATE_LIMIT

-- nothing set
abbrev pub new_table : List CrateView → List (List ℕ) → ℕ → State
new_table crates skipped start = record { crates = take crate_limit crates; skipped = skipped; start = start; number = start; places = [] }

-- the crate is of the list
abbrev pub IsKnown : State → Crate → Type 0
IsKnown s krate = krate.0 < length s.crates

-- the present options of a crate
abbrev pub options : State → Crate → Option (List AtomView)
options s krate = option_map (λ k. k.options) (slice_get s.crates krate.0)

-- the crate under other options
abbrev pub with_cfg : List AtomView → CrateView → CrateView
with_cfg options krate = record { root = krate.root; options = options; attrs = krate.attrs }

-- what a list of entries has at a place
abbrev pub find : {X : Type 0} → List (Place × X) → Place → Option X
find l place = map.find place_cmp place l

-- the present syntax of a place
abbrev pub present : State → Place → Option SyntaxView
present s place = option_and_then (λ held. held.syntax) (find s.places place)

-- the place is the crate's root file
abbrev pub is_root_of : CrateView → Place → Bool
is_root_of krate (File file) = file.0 == krate.root.0
is_root_of krate (Block block) = false

-- what a crate keeps of a syntax of a place, under its own options
abbrev pub kept_at : List (List ℕ) → Place → SyntaxView → CrateView → Unfolding
kept_at skipped place syntax krate = kept_syntax (is_root_of krate place) krate skipped syntax

-- the same of a place's present syntax: nothing where there is none
abbrev pub unfolding_of : List (List ℕ) → Place → Option CrateView → Option SyntaxView → Unfolding
unfolding_of skipped place krate None = nothing
unfolding_of skipped place None (Some syntax) = nothing
unfolding_of skipped place (Some krate) (Some syntax) = kept_at skipped place syntax krate

-- what the tree of a place unfolds to in crate i
abbrev pub unfolding_at : State → Place → ℕ → Unfolding
unfolding_at s place i = unfolding_of s.skipped place (slice_get s.crates i) (present s place)

-- the number of the last edit at which it became another, or the start
abbrev pub change_number : State → Place → ℕ → ℕ
change_number s place i = unwrap_or (option_and_then (λ held. slice_get held.changed i) (find s.places place)) s.start
