-- Conflict markers, which a merge leaves where it could not decide.
use Rattle.std.specs.Prelude.{ℕ, zero, suc, ◌-◌, ◌==◌, Bool, false, ◌&&◌, ◌||◌, if◌then◌else◌, List, [], ◌∷◌, length, slice_index, Option, Some, None}
use Rattle.std.specs.Option.{option_and_then}
use Rattle.rust_lexer.specs.Piece.{Piece}
use Rattle.rust_lexer.specs.Symbol.{symbol_of}
use Rattle.source_problems.specs.declared.problem.SourceProblem.{SourceProblem}
use Rattle.source_problems.specs.declared.problem.SourceProblemKind.TheVariants as kind
use Rattle.source_problems.specs.Problems.{problem}

-- what stands behind a mark of this symbol, if it comes first
abbrev pub behind_first_mark : ℕ → List Piece → Option (List Piece)
behind_first_mark symbol [] = None
behind_first_mark symbol (t ∷ ts) = if symbol_of t == symbol then Some ts else None

-- and behind so many
abbrev pub behind_marks : ℕ → ℕ → List Piece → Option (List Piece)
behind_marks zero symbol ts = Some ts
behind_marks (suc n) symbol ts = option_and_then (behind_marks n symbol) (behind_first_mark symbol ts)

-- a blank stands behind a marker; behind that of `=` the line may end, or the text
abbrev pub ends_marker : ℕ → List Piece → Bool
ends_marker symbol [] = symbol == 61
ends_marker symbol (t ∷ ts) = slice_index t.text 0 == 32 || (symbol == 61 && slice_index t.text 0 == 10)

abbrev pub ends_some_marker : ℕ → Option (List Piece) → Bool
ends_some_marker symbol None = false
ends_some_marker symbol (Some behind) = ends_marker symbol behind

-- `<`, `=` or `>`
abbrev pub is_marker_symbol : ℕ → Bool
is_marker_symbol symbol = symbol == 60 || (symbol == 61 || symbol == 62)

-- seven marks of one symbol come first
abbrev pub is_marker : ℕ → List Piece → Bool
is_marker symbol ts = is_marker_symbol symbol && ends_some_marker symbol (behind_marks 7 symbol ts)

-- of a line that begins with these
abbrev pub marker_problems : List Piece → List SourceProblem
marker_problems [] = []
marker_problems (t ∷ ts) = if is_marker (symbol_of t) (t ∷ ts) then problem kind.ConflictMarker t.at ∷ [] else []

-- a line begins behind a token that ends with a line feed
abbrev pub marker_behind : Piece → List Piece → List SourceProblem
marker_behind t ts = if slice_index t.text (length t.text - 1) == 10 then marker_problems ts else []
