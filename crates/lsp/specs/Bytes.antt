-- Bytes of a text, as the protocol counts lines and characters.
use Rattle.std.specs.Prelude.{ℕ, true, List}
use Rattle.line_index.specs.declared.LineEnds.TheVariants.{All}
use Rattle.line_index.specs.declared.Point.{Point}
use Rattle.line_index.specs.declared.Style.{Style}
use Rattle.line_index.specs.declared.Units.{Units}
use Rattle.line_index.specs.Points.{byte_at, point_at}
use Rattle.rust_paths.specs.declared.names.TextRange.{TextRange}
use Rattle.lsp.specs.declared.position.Span.{Span}

-- a line ends as the protocol has it, and a byte order mark is a character of a text
abbrev pub protocol_style : Units → Style
protocol_style units = record { units = units; line_ends = All; shows_mark = true }

-- the byte of a position
abbrev pub byte_of : Units → Point → List ℕ → ℕ
byte_of units place text = byte_at (protocol_style units) text place

-- the position of a byte
abbrev pub place_of_byte : Units → List ℕ → ℕ → Point
place_of_byte units text at = point_at (protocol_style units) text at

-- where a range of bytes stands
abbrev pub range_span : Units → List ℕ → TextRange → Span
range_span units text r = record { start = place_of_byte units text r.start; end = place_of_byte units text r.end }
