-- Lines of JSON, and what is told of places there.
use Rattle.std.specs.Prelude.{ℕ, List, ◌++◌, codes, Option, Some, None}
use Rattle.line_index.specs.declared.Position.{Position}
use Rattle.serde_json.specs.Data.{Data, null, number, unsigned}
use Rattle.serde_json.specs.Written.{compact_text}

-- a value on one line
abbrev pub value_line : Data → List ℕ
value_line d = compact_text d ++ codes "\n"

abbrev pub count_form : ℕ → Data
count_form n = number (unsigned n)

-- the line of a place, or null
abbrev pub line_number : Option Position → Data
line_number None = null
line_number (Some p) = count_form p.line

-- the column of a place, or null
abbrev pub column_number : Option Position → Data
column_number None = null
column_number (Some p) = count_form p.column
