-- What items without a name are called by: what stands behind the words that begin them.
use Rattle.std.specs.Prelude.{ℕ, Bool, true, false, ◌==◌, ◌&&◌, ◌||◌, not, if◌then◌else◌, List, [], ◌∷◌, ◌++◌, length, codes, nat_lt, Option, Some, None, bytes_eq}
use Rattle.hir_input.specs.declared.edition.EditionYear.{EditionYear}
use Rattle.rust_lexer.specs.Piece.{Piece}
use Rattle.rust_cursor.specs.Tokens.{Tokens, tokens_of}
use Rattle.rust_cursor.specs.Words.{symbol, word, text, is_empty, bumped}
use Rattle.rust_cursor.specs.Angles.{behind_angles}
use Rattle.rust_leaves.specs.Fronts.{front}
use Rattle.rust_paths.specs.declared.names.TextRange.{TextRange}
use Rattle.source_rows.specs.declared.blanks.Spacing.{Spacing}
use Rattle.source_rows.specs.Blanks.{first_spacing, gap_text, spacing_behind}
use Rattle.source_rows.specs.Labels.{text_at}

-- what can follow a header, of which this is done: `{`, `;`, `=`, and a `!` that is not its first token
abbrev pub can_follow : List ℕ → ℕ → Bool
can_follow done c = c == 123 || (c == 59 || (c == 61 || (c == 33 && not (length done == 0))))

-- A header ends before `where`; and before what can follow it, but for that of an impl whose braces are known: those are not among its tokens.
abbrev pub ends_before : Bool → List ℕ → Tokens → Bool
ends_before is_cut done ts = bytes_eq (word ts) (codes "where") || (not is_cut && can_follow done (symbol ts))

-- it is over: what comes next ends it, and does not stand in brackets, which reach up to this place
abbrev pub is_over : Bool → ℕ → List ℕ → Tokens → Bool
is_over is_cut reach done ts = if is_empty ts then true else (if nat_lt ts.past reach then false else ends_before is_cut done ts)

-- the texts of tokens behind others, with blanks; at most as many as a token is in this list
abbrev pub spaced_from : Bool → List ℕ → Spacing → Tokens → List Piece → List ℕ
spaced_from is_cut done s ts [] = done
spaced_from is_cut done s ts (_ ∷ more) =
    if is_over is_cut s.reach done ts then done
    else spaced_from is_cut (done ++ (gap_text s ts ++ text ts)) (spacing_behind s ts) (bumped ts) more

abbrev pub spaced_tokens : Bool → List ℕ → Spacing → Tokens → List ℕ
spaced_tokens is_cut done s ts = spaced_from is_cut done s ts ts.left

-- the header of an item, which this is the text of, or what of it stands before its braces
unfoldable pub header_in : Bool → EditionYear → List ℕ → List ℕ
header_in is_cut edition item = spaced_tokens is_cut [] first_spacing (behind_angles (front (tokens_of edition item)).1)

-- the header of an item that stands there in a text; if it is an impl whose braces are known, they are these
abbrev pub header : EditionYear → List ℕ → TextRange → Option TextRange → List ℕ
header edition text range None = header_in false edition (text_at text range)
header edition text range (Some braces) = header_in true edition (text_at text (record { start = range.start; end = braces.start }))
