-- What of an item or a member belongs to a position.
use Rattle.std.specs.Prelude.{ℕ, suc, ◌-◌, min, Bool, false, ◌||◌, if◌then◌else◌, List, [], ◌∷◌, flat_map, Option, Some, None, option_map}
use Rattle.serde_json.specs.Data.{Data}
use Rattle.line_index.specs.declared.Point.{Point}
use Rattle.line_index.specs.declared.Units.{Units}
use Rattle.rust_paths.specs.declared.names.TextRange.{TextRange}
use Rattle.lsp.specs.Bytes.{byte_of}
use Rattle.lsp.specs.Parts.{holds_byte, range_data}
use Rattle.lsp.specs.declared.parts.Part.{Part}

-- the first byte of a range, and its last
abbrev pub first_byte : TextRange → TextRange
first_byte r = record { start = r.start; end = min (suc r.start) r.end }

abbrev pub last_byte : TextRange → TextRange
last_byte r = record { start = r.end - 1; end = r.end }

-- the name of a part and its two braces, those that it has
abbrev pub highlight_ranges : Part → List (Option TextRange)
highlight_ranges p = p.name ∷ option_map first_byte p.body ∷ option_map last_byte p.body ∷ []

-- a byte stands at one of them
abbrev pub is_highlighted : ℕ → List (Option TextRange) → Bool
is_highlighted at [] = false
is_highlighted at (None ∷ ms) = is_highlighted at ms
is_highlighted at (Some r ∷ ms) = holds_byte at r || is_highlighted at ms

-- those of the first part that has one there
abbrev pub marks_at : ℕ → List Part → List (Option TextRange)
marks_at at [] = []
marks_at at (p ∷ ps) = if is_highlighted at (highlight_ranges p) then highlight_ranges p else marks_at at ps

abbrev pub mark_data : Units → List ℕ → Option TextRange → List Data
mark_data units text None = []
mark_data units text (Some r) = range_data units text r ∷ []

-- the objects of those at a position
abbrev pub highlights_at : Units → List ℕ → List Part → Point → List Data
highlights_at units text ps place = flat_map (mark_data units text) (marks_at (byte_of units place text) ps)
