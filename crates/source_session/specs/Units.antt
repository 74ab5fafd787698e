-- What a show may say of how it is answered.
use Rattle.std.specs.Prelude.{ℕ, Bool, true, false, List, [], codes}
use Rattle.serde_json.specs.Data.{Data}
use Rattle.hir_input_json.specs.Reading.{Reading, right, wrong, reading_map, ◌>>=◌}
use Rattle.hir_input_json.specs.Forms.{flag, on_word, optional_at, text_form}
use Rattle.line_index.specs.declared.Units.{Units}
use Rattle.line_index.specs.declared.Units.TheVariants.{Characters, Utf16, Bytes}
use Rattle.source_session.specs.Keys.{none_at}

-- what columns count, by its word
abbrev pub units_by : List ℕ → Reading Units
units_by word = on_word word (codes "characters") (right Characters) (on_word word (codes "utf-16") (right Utf16) (on_word word (codes "bytes") (right Bytes) (wrong [])))

abbrev pub units_form : Data → Reading Units
units_form d = do
  word ← text_form d
  units_by word

-- by default characters
abbrev pub units_at : Data → Reading Units
units_at = optional_at Characters (codes "units") units_form

-- whether members are asked for
abbrev pub members_asked : Data → Reading Bool
members_asked = optional_at false (codes "members") flag

-- where columns are told; elsewhere there is no choice
abbrev pub units_if : Bool → Data → Reading Units
units_if true d = units_at d
units_if false d = reading_map (λ _. Characters) (none_at (codes "units") d)
