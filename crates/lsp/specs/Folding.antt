-- The ranges of a document that may be folded.
use Rattle.std.specs.Prelude.{ℕ, nat_lt, if◌then◌else◌, List, [], ◌∷◌, codes, unwrap_or}
use Rattle.serde_json.specs.Data.{Data, object, no_members, member}
use Rattle.list_forms.specs.Lines.{count_form}
use Rattle.line_index.specs.declared.Units.TheVariants.{Bytes}
use Rattle.rust_paths.specs.declared.names.TextRange.{TextRange}
use Rattle.lsp.specs.Bytes.{place_of_byte}
use Rattle.lsp.specs.declared.parts.Part.{Part}

-- what of a part is folded: its braces, or else all from its name on, or from where it begins
abbrev pub fold_range : Part → TextRange
fold_range p = unwrap_or p.body (record { start = (unwrap_or p.name p.range).start; end = p.range.end })

-- the object of two lines, if they differ
abbrev pub lines_data : (start end : ℕ) → List Data
lines_data start end =
    if nat_lt start end then object (member (codes "endLine") (count_form end) (member (codes "startLine") (count_form start) no_members)) ∷ [] else []

-- that of a part of a text
abbrev pub fold_data : List ℕ → Part → List Data
fold_data text p = lines_data (place_of_byte Bytes text (fold_range p).start).line (place_of_byte Bytes text (fold_range p).end).line
