-- Positions and ranges as the protocol has them.
use Rattle.std.specs.Prelude.{ℕ, pos, ◌^◌, if◌then◌else◌, codes, Option, Some, None, option_and_then}
use Rattle.std.specs.Float.{Float, binary64, float_to_unsigned}
use Rattle.std.specs.Float.Ieee.{eq, of_int}
use Rattle.std.specs.Int.{w32}
use Rattle.serde_json.specs.Data.{Num, unsigned, negative, float, Data, object, no_members, member}
use Rattle.serde_json.specs.Find.{as_number}
use Rattle.list_forms.specs.Lines.{count_form}
use Rattle.line_index.specs.declared.Point.{Point}
use Rattle.lsp.specs.declared.position.Span.{Span}
use Rattle.hir_input_json.specs.Reading.{Reading, right, here, ◌>>=◌}
use Rattle.hir_input_json.specs.Forms.{number_below, object_members, required_at}

-- the whole number that a float is, if it is one
abbrev pub whole_float : Float → Option ℕ
whole_float x = let n = float_to_unsigned w32 x in if eq (of_int binary64 (pos n)) x then Some n else None

-- a number that is whole, as it may also be written with zeros behind a point
abbrev pub whole_number : Num → Option ℕ
whole_number (unsigned n) = Some n
whole_number (negative z) = None
whole_number (float x) = whole_float x

-- a number of lines or of characters
abbrev pub position_number : Data → Reading ℕ
position_number d = here (option_and_then (number_below (2 ^ 31)) (option_and_then whole_number (as_number d)))

-- a position
abbrev pub position_form : Data → Reading Point
position_form d = do
  _ ← object_members d
  line ← required_at (codes "line") position_number d
  character ← required_at (codes "character") position_number d
  right (record { line = line; column = character })

-- a range
abbrev pub span_form : Data → Reading Span
span_form d = do
  _ ← object_members d
  start ← required_at (codes "start") position_form d
  end ← required_at (codes "end") position_form d
  right (record { start = start; end = end })

-- the object of a position
abbrev pub place_data : Point → Data
place_data s = object (member (codes "character") (count_form s.column) (member (codes "line") (count_form s.line) no_members))

-- the object of a range
abbrev pub span_object : Span → Data
span_object s = object (member (codes "end") (place_data s.end) (member (codes "start") (place_data s.start) no_members))
