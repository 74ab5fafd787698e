-- What is answered by where the items and members of a document stand.
use Rattle.std.specs.Prelude.{◌≡◌, ℕ, Bool, true, false, List, [], ◌∷◌, codes, flat_map, map, Ok, Err}
use Rattle.serde_json.specs.Data.{Data, array}
use Rattle.serde_json.specs.View.{items_of}
use Rattle.hir_input_json.specs.Reading.{Reading, right, wrong, ◌>>=◌}
use Rattle.hir_input_json.specs.Forms.{required_at, list_of}
use Rattle.line_index.specs.declared.Point.{Point}
use Rattle.line_index.specs.declared.Units.{Units}
use Rattle.source_rows.specs.ListedFiles.{IsUnlisted}
use Rattle.source_rows.specs.declared.read_texts.ReadError.{ReadError}
use Rattle.itemtree_commands.specs.declared.Options.{Options}
use Rattle.lsp.specs.Documents.{Document, Documents, document_in, open_document, uri_form}
use Rattle.lsp.specs.Folding.{fold_data}
use Rattle.lsp.specs.Highlight.{highlights_at}
use Rattle.lsp.specs.Parts.{AreTextParts}
use Rattle.lsp.specs.Positions.{position_form}
use Rattle.lsp.specs.Responses.{RequestOutcome, of_read}
use Rattle.lsp.specs.Selection.{selection_at}
use Rattle.lsp.specs.declared.method.RangeKind.{RangeKind}
use Rattle.lsp.specs.declared.method.RangeKind.TheVariants.{Folding, Selection, Highlight}
use Rattle.lsp.specs.declared.parts.Part.{Part}
use Rattle.lsp.specs.declared.response.ResponseError.TheVariants.{InvalidParams}

-- the positions that parameters ask about
abbrev pub places_form : RangeKind → Data → Reading (List Point)
places_form Folding params = right []
places_form Selection params = required_at (codes "positions") (list_of position_form) params
places_form Highlight params = do
  place ← required_at (codes "position") position_form params
  right (place ∷ [])

-- the document that parameters are about, and these
abbrev pub asked_places : RangeKind → Documents → Data → Reading (Document × List Point)
asked_places kind ds params = do
  uri ← uri_form params
  places ← places_form kind params
  d ← open_document (document_in ds uri)
  right (d, places)

-- what a text with these parts has at positions
abbrev pub range_items : RangeKind → Units → List ℕ → List Part → List Point → List Data
range_items Folding units text ps places = flat_map (fold_data text) ps
range_items Selection units text ps places = map (selection_at units text ps) places
range_items Highlight units text ps places = flat_map (highlights_at units text ps) places

-- a text that is Rust is not read
abbrev pub HasNoParts : Bool → List ℕ → ReadError → Type 0
HasNoParts true text why = IsUnlisted text why
HasNoParts false text why = ⊥

-- what is answered about positions in a document, or why nothing is
abbrev pub AreRanges : Options → Units → RangeKind → Document → List Point → RequestOutcome → Type 0
AreRanges o units kind d places (Ok a) = (ps : List Part) × AreTextParts o d.is_rust d.text ps × (a ≡ array (items_of (range_items kind units d.text ps places)))
AreRanges o units kind d places (Err e) = (why : ReadError) × HasNoParts d.is_rust d.text why × (e ≡ of_read why)

-- about those that parameters ask for
abbrev pub AreAskedRanges : Options → Units → RangeKind → Reading (Document × List Point) → RequestOutcome → Type 0
AreAskedRanges o units kind (wrong pointer) out = out ≡ Err (InvalidParams pointer)
AreAskedRanges o units kind (right (d, places)) out = AreRanges o units kind d places out
