-- The sizes of what is lowered for several crates, or of several places.
use Rattle.std.specs.Prelude.{ℕ, List, Option, Some, slice_get}
use Rattle.hir_input.specs.Syntax.{SyntaxView}
use Rattle.item_tree.specs.declared.fault.LowerError.{LowerError}
use Rattle.item_tree.specs.CrateView.{CrateView}
use Rattle.item_tree_db.specs.declared.place.Place.{Place}
use Rattle.item_tree_db.specs.Refusal.{TreeFits, TreePasses}
use Rattle.item_tree_db.specs.Inner.Shelf.{Places, placed_at, syntax_in}

-- the syntax of a place passes no size in any crate
abbrev pub CratesFit : List CrateView → List (List ℕ) → Place → SyntaxView → Type 0
CratesFit crates skipped place syntax = (i : ℕ) → TreeFits skipped place (slice_get crates i) (Some syntax)

-- it passes this size in some crate
abbrev pub CratesPass : List CrateView → List (List ℕ) → Place → SyntaxView → LowerError → Type 0
CratesPass crates skipped place syntax error = (i : ℕ) × TreePasses skipped place (slice_get crates i) (Some syntax) error

-- what is set at each place passes no size in a crate
abbrev pub PlacesFit : List (List ℕ) → Option CrateView → Places → Type 0
PlacesFit skipped krate places = (place : Place) → TreeFits skipped place krate (syntax_in (placed_at places place))

-- what is set at one passes this size
abbrev pub PlacesPass : List (List ℕ) → Option CrateView → Places → LowerError → Type 0
PlacesPass skipped krate places error = (place : Place) × TreePasses skipped place krate (syntax_in (placed_at places place)) error
