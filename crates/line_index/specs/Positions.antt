-- Lines and columns of lists, both from 1, as rustc counts them.
use Rattle.std.specs.Prelude.{ℕ, ◌+◌, false, List}
use Rattle.line_index.specs.declared.LineEnds.TheVariants.{Feeds}
use Rattle.line_index.specs.declared.Point.{Point}
use Rattle.line_index.specs.declared.Position.{Position}
use Rattle.line_index.specs.declared.Style.{Style}
use Rattle.line_index.specs.declared.Units.{Units}
use Rattle.line_index.specs.declared.Units.TheVariants.{Characters}
use Rattle.line_index.specs.Points.{point_at}
pub use Rattle.line_index.specs.Points.{continues_character, mark_length}

-- the style of lists: line feeds end lines, and a mark is not shown
abbrev pub list_style : Units → Style
list_style units = record { units = units; line_ends = Feeds; shows_mark = false }

-- a point as lists count it
abbrev pub from_one : Point → Position
from_one p = record { line = p.line + 1; column = p.column + 1 }

-- where a byte of a text stands in lists, by columns of these units
unfoldable pub position_in : Units → List ℕ → ℕ → Position
position_in units text at = from_one (point_at (list_style units) text at)

-- the same by columns of characters
abbrev pub position_of : List ℕ → ℕ → Position
position_of text at = position_in Characters text at
