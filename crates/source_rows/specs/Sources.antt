-- Files, and their places as compilers write them.
use Rattle.std.specs.Prelude.{◌≡◌, ℕ, List, ◌++◌, codes, decimal}
use Rattle.line_index.specs.declared.Position.{Position}
use Rattle.line_index.specs.Positions.{position_of}

-- a file: its path as it is to be written, and its text
pub record Source : Type 0 where
  pub path : List ℕ
  pub text : List ℕ

-- what an editor and a compiler write of a place: the file, the line and the column
abbrev pub place_text : List ℕ → Position → List ℕ
place_text path p = path ++ codes ":" ++ decimal p.line ++ codes ":" ++ decimal p.column ++ codes ": "

-- the same of a byte of the text
abbrev pub place_at : Source → ℕ → List ℕ
place_at s at = place_text s.path (position_of s.text at)

-- a text that begins with another
abbrev pub BeginsWith : List ℕ → List ℕ → Type 0
BeginsWith front text = (rest : List ℕ) × (text ≡ front ++ rest)
