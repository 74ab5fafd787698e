-- Where imports are written.
use Rattle.std.specs.Prelude.{ℕ, if◌then◌else◌, nat_lt, List, [], ◌∷◌, Option, option_map, slice_get, unwrap_or}
use Rattle.hir_input.specs.declared.ids.FileAstId.{FileAstId}
use Rattle.line_index.specs.declared.Units.{Units}
use Rattle.line_index.specs.declared.Units.TheVariants.{Characters}
use Rattle.line_index.specs.Positions.{position_in}
use Rattle.rust_items.specs.declared.source_file.ItemPlace.{ItemPlace}
use Rattle.source_rows.specs.declared.finder.Spot.{Spot}
use Rattle.source_rows.specs.Places.{place_of, stands_at}

-- the places of a file's items, and where its use trees begin, each before those in it
pub record FilePlaces : Type 0 where
  pub items : List ItemPlace
  pub use_trees : List ℕ

-- the places of a file's items and of its use trees
abbrev pub file_places : List ItemPlace → List ℕ → FilePlaces
file_places items use_trees = record { items = items; use_trees = use_trees }

-- a text, with where its items and use trees stand
pub record PlacedText : Type 0 where
  pub text : List ℕ
  pub places : FilePlaces

-- the text with these places
abbrev pub with_places : List ℕ → FilePlaces → PlacedText
with_places text places = record { text = text; places = places }

-- from the first on that does not stand before this place
abbrev pub from_place : ℕ → List ℕ → List ℕ
from_place start [] = []
from_place start (s ∷ ss) = if nat_lt s start then from_place start ss else s ∷ ss

-- a use item's place, and where its use trees begin, and those of the uses behind it
pub record Trees : Type 0 where
  pub place : ItemPlace
  pub starts : List ℕ

abbrev pub use_trees_at : List ℕ → ItemPlace → Trees
use_trees_at use_trees p = record { place = p; starts = from_place p.range.start use_trees }

-- where a use tree begins
abbrev pub tree_start : ℕ → Trees → ℕ
tree_start index t = unwrap_or (slice_get t.starts index) (stands_at t.place)

-- it stands at its first byte, by columns of these units
abbrev pub tree_spot : Units → List ℕ → ℕ → Trees → Spot
tree_spot units text index t = record { position = position_in units text (tree_start index t); range = t.place.range }

abbrev pub tree_spots_in : Units → List ℕ → Option Trees → ℕ → Option Spot
tree_spots_in units text trees index = option_map (tree_spot units text index) trees

-- where the use tree of this number stands in the item of an id
abbrev pub import_spot_in : Units → List ℕ → FilePlaces → FileAstId → ℕ → Option Spot
import_spot_in units text places id = tree_spots_in units text (option_map (use_trees_at places.use_trees) (place_of id places.items))

-- the same by columns of characters
abbrev pub tree_spots : List ℕ → Option Trees → ℕ → Option Spot
tree_spots = tree_spots_in Characters

abbrev pub import_spot : List ℕ → FilePlaces → FileAstId → ℕ → Option Spot
import_spot = import_spot_in Characters
