-- Where items and use trees stand, in two texts that differ between the braces of a body.
use Rattle.std.specs.Prelude.{◌≡◌, ℕ, suc, ◌+◌, ◌-◌, nat_le, if◌then◌else◌, option_map, List, length, map}
use Rattle.hir_input.specs.declared.edition.EditionYear.{EditionYear}
use Rattle.rust_items.specs.declared.source_file.ItemPlace.{ItemPlace}
use Rattle.rust_items.specs.LineEnds.{with_feeds, place_in, moved_range}
use Rattle.rust_items.specs.SourceFiles.{FileView, found_in, IsFileView}
use Rattle.rust_items.specs.Typed.{has_body, has_body_at}
use Rattle.rust_edits.specs.Typing.Laws.{with_body, IsTyped}

-- Where a place of the old text is in the new one: up to the `{` it stays, and behind the braces it is counted from the `}`. The numbers
-- are the places of the `{`, of the `}`, and of the `}` in the new text.
abbrev pub place_after_edit : ℕ → ℕ → ℕ → ℕ → ℕ
place_after_edit opening closing closing_new n = if nat_le n opening then n else closing_new + (n - closing)

-- the place of the `}`
abbrev pub close_at : List ℕ → List ℕ → ℕ
close_at q m = suc (length q) + length m

abbrev pub shifted_by : List ℕ → List ℕ → List ℕ → ℕ → ℕ
shifted_by q m m' = place_after_edit (length q) (close_at q m) (close_at q m')

-- the place of the same item, in another text
abbrev pub moved_place : (ℕ → ℕ) → ItemPlace → ItemPlace
moved_place place p = record { id = p.id; range = moved_range place p.range; name = option_map (moved_range place) p.name; body = option_map (moved_range place) p.body }

-- where items and use trees stand that are read of two texts that differ between the two braces of a body
pub record AreMoved (q m m' s : List ℕ) (read again : FileView) : Type 0 where
  pub places : again.places ≡ map (moved_place (shifted_by q m m')) read.places
  pub use_trees : again.use_trees ≡ map (shifted_by q m m') read.use_trees

-- Whatever is typed inside a body, items and use trees stand where they stood, but for those behind the body, which move with the text.
abbrev pub PlacesMove : Type 0
PlacesMove = (edition : EditionYear) (q m m' s : List ℕ) (read again : FileView) → IsTyped edition (with_feeds q) (with_feeds m) (with_feeds m') (with_feeds s)
    → IsFileView edition (with_body q m s) read → IsFileView edition (with_body q m' s) again → AreMoved q m m' s read again

-- Whatever is typed inside a body of a text of which something is read, something is read of the text with it: what it is, the laws tell.
abbrev pub IsReadAnew : Type 0
IsReadAnew = (edition : EditionYear) (q m m' s : List ℕ) (read : FileView) → IsTyped edition (with_feeds q) (with_feeds m) (with_feeds m') (with_feeds s)
    → IsFileView edition (with_body q m s) read → (again : FileView) × IsFileView edition (with_body q m' s) again

-- Whether braces are a body (`Laws.IsBody`) is seen in the places of the file that was read.
abbrev pub BodyIsTold : Type 0
BodyIsTold = (edition : EditionYear) (q m s old : List ℕ) (read : FileView) → with_feeds old ≡ with_body q m s → IsFileView edition old read
    → has_body_at (place_in old (length q)) read.places ≡ has_body (length q) (found_in edition (with_body q m s)).spans
