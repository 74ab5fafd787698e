-- The ranges around a position, each in the next larger one.
use Rattle.std.specs.Prelude.{ℕ, nat_le, nat_lt, Bool, ◌&&◌, ◌||◌, if◌then◌else◌, List, [], ◌∷◌, codes, length, unwrap_or}
use Rattle.serde_json.specs.Data.{Data, object, no_members, member}
use Rattle.line_index.specs.declared.Point.{Point}
use Rattle.line_index.specs.declared.Units.{Units}
use Rattle.rust_paths.specs.declared.names.TextRange.{TextRange}
use Rattle.lsp.specs.Bytes.{byte_of, range_span}
use Rattle.lsp.specs.Parts.{holds_byte, range_data}
use Rattle.lsp.specs.Positions.{span_object}
use Rattle.lsp.specs.declared.parts.Part.{Part}
use Rattle.lsp.specs.declared.position.Span.{Span}

-- a range, and its object, which holds those around it
pub record Chain : Type 0 where
  pub range : TextRange
  pub value : Data

-- a range is within another, and not the same
abbrev pub is_range_within : (outer r : TextRange) → Bool
is_range_within outer r = nat_le outer.start r.start && (nat_le r.end outer.end && (nat_lt outer.start r.start || nat_lt r.end outer.end))

abbrev pub inner_data : Span → Data → Data
inner_data span parent = object (member (codes "parent") parent (member (codes "range") (span_object span) no_members))

-- a whole text
abbrev pub whole_range : List ℕ → TextRange
whole_range text = record { start = 0; end = length text }

module _ (units : Units) (text : List ℕ) where
  -- a range goes into the innermost, if it is within that and around the byte
  abbrev pub with_range : ℕ → TextRange → Chain → Chain
  with_range at r c = if is_range_within c.range r && holds_byte at r then record { range = r; value = inner_data (range_span units text r) c.value } else c

  -- the range of a part, and then that of its name
  abbrev pub with_part : ℕ → Part → Chain → Chain
  with_part at p c = with_range at (unwrap_or p.name p.range) (with_range at p.range c)

  abbrev pub with_parts : ℕ → List Part → Chain → Chain
  with_parts at [] c = c
  with_parts at (p ∷ ps) c = with_parts at ps (with_part at p c)

  -- the whole text, in which all others are
  abbrev pub whole_chain : Chain
  whole_chain = record { range = whole_range text; value = range_data units text (whole_range text) }

  -- the innermost range around a position, in those around it
  abbrev pub selection_at : List Part → Point → Data
  selection_at ps place = (with_parts (byte_of units place text) ps whole_chain).value
