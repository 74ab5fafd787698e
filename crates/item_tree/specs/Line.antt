-- Lines with levels, blanks, and their text.
use Rattle.std.specs.Prelude.{ℕ, ◌*◌, ◌==◌, List, [], ◌∷◌, ◌++◌, map, replicate}
use Rattle.std.specs.List.{flat_map, slice_split}

-- a line with its level, or a blank
pub data Line : Type 0 where
  text : ℕ → List ℕ → Line
  blank : Line

-- a level puts four spaces in front, and every line ends with a line feed
abbrev pub line_text : Line → List ℕ
line_text (text level bytes) = replicate (4 * level) 32 ++ bytes ++ 10 ∷ []
line_text blank = 10 ∷ []

-- the lines one after another
abbrev pub lines_text : List Line → List ℕ
lines_text lines = flat_map line_text lines

-- the parts of a text between its line feeds, each a line of the level
abbrev pub lines_of_text : ℕ → List ℕ → List Line
lines_of_text level bytes = map (text level) (slice_split (λ b. b == 10) bytes)
