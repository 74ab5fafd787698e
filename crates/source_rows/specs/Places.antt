-- Where an item stands, by its id.
use Rattle.std.specs.Prelude.{◌≢◌, ℕ, Bool, ◌==◌, ◌&&◌, if◌then◌else◌, List, [], ◌∷◌, ◌++◌, codes, Option, Some, None, AllPairs}
use Rattle.hir_input.specs.declared.ids.FileAstId.{FileAstId}
use Rattle.line_index.specs.declared.Units.{Units}
use Rattle.line_index.specs.declared.Units.TheVariants.{Characters}
use Rattle.line_index.specs.Positions.{position_in}
use Rattle.source_rows.specs.Sources.{place_text}
use Rattle.rust_ids.specs.Ids.{kind_place}
use Rattle.rust_paths.specs.declared.names.TextRange.{TextRange}
use Rattle.rust_items.specs.declared.source_file.ItemPlace.{ItemPlace}
use Rattle.source_rows.specs.declared.finder.Spot.{Spot}

-- no two places have one id
abbrev pub AreDistinct : List ItemPlace → Type 0
AreDistinct = AllPairs (λ p q. p.id ≢ q.id)

-- two ids are one
abbrev pub is_id : FileAstId → FileAstId → Bool
is_id a b = kind_place a.kind == kind_place b.kind && (a.hash == b.hash && a.number == b.number)

-- the first place of an id
abbrev pub place_of : FileAstId → List ItemPlace → Option ItemPlace
place_of id [] = None
place_of id (p ∷ ps) = if is_id id p.id then Some p else place_of id ps

-- an item stands at its name, or where it begins
abbrev pub at_name : Option TextRange → ℕ → ℕ
at_name None start = start
at_name (Some name) start = name.start

abbrev pub stands_at : ItemPlace → ℕ
stands_at p = at_name p.name p.range.start

-- its line and column in a text, by columns of these units, and its bytes
abbrev pub spot_in : Units → List ℕ → ItemPlace → Spot
spot_in units text p = record { position = position_in units text (stands_at p); range = p.range }

-- the same by columns of characters
abbrev pub spot_at : List ℕ → ItemPlace → Spot
spot_at text p = spot_in Characters text p

-- what an editor and a compiler write of the place of an item; each has a place
abbrev pub item_place : List ℕ → Option Spot → List ℕ
item_place path None = path ++ codes ": "
item_place path (Some spot) = place_text path spot.position
