-- Changes of a text.
use Rattle.std.specs.Prelude.{ℕ, List, [], ◌∷◌, codes, nat_le, if◌then◌else◌, Option, Some, None}
use Rattle.serde_json.specs.Data.{Data}
use Rattle.hir_input_json.specs.Reading.{Reading, right, ◌>>=◌}
use Rattle.hir_input_json.specs.Forms.{object_members, required_at, maybe_at, text_form, list_of}
use Rattle.line_index.specs.declared.Units.{Units}
use Rattle.lsp.specs.Positions.{span_form}
use Rattle.lsp.specs.declared.position.Span.{Span}
use Rattle.line_index.specs.Starts.{replace_range}
use Rattle.lsp.specs.Bytes.{byte_of}

-- a text in the place of a span, or of all
pub record SpanChange : Type 0 where
  pub span : Option Span
  pub text : List ℕ

-- a text with another between two of its places, in whichever order these are
abbrev pub replaced_between : ℕ → ℕ → List ℕ → List ℕ → List ℕ
replaced_between from to new text = if nat_le from to then replace_range text from to new else replace_range text to from new

-- a text after a change
abbrev pub changed_in : Units → Option Span → List ℕ → List ℕ → List ℕ
changed_in units None new text = new
changed_in units (Some span) new text = replaced_between (byte_of units span.start text) (byte_of units span.end text) new text

-- after changes, each in the text that the one before left
abbrev pub text_with_changes : Units → List SpanChange → List ℕ → List ℕ
text_with_changes units [] text = text
text_with_changes units (c ∷ cs) text = text_with_changes units cs (changed_in units c.span c.text text)

-- a change that parameters ask for
abbrev pub content_change_form : Data → Reading SpanChange
content_change_form d = do
  _ ← object_members d
  span ← maybe_at (codes "range") span_form d
  text ← required_at (codes "text") text_form d
  right (record { span = span; text = text })

-- the changes that parameters ask for
abbrev pub changes_form : Data → Reading (List SpanChange)
changes_form d = do
  _ ← object_members d
  required_at (codes "contentChanges") (list_of content_change_form) d
