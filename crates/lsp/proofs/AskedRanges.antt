-- What parameters ask of where items stand.
use Rattle.std.proofs.Common.{◌≡◌, ◌∙◌, ℕ, List, [], ◌∷◌, codes, refl, sym, ap}
use Rattle.serde_json.specs.Data.{Data}
use Rattle.hir_input_json.specs.Reading.{right, under, ◌>>=◌}
use Rattle.hir_input_json.specs.Forms.{list_of, required_by}
use Rattle.hir_input_json.specs.Held.{without_key}
use Rattle.hir_input_json.specs.Reads.{Tells}
use Rattle.hir_input_json.specs.declared.fault.Fault.{Fault}
use Rattle.hir_input_json.proofs.MemberObjects.{field_without}
use Rattle.line_index.specs.declared.Point.{Point}
use Rattle.lsp.specs.Documents.{Document, Documents, document_in, open_document, uri_form}
use Rattle.lsp.specs.Positions.{position_form}
use Rattle.lsp.specs.Ranges.{asked_places, places_form}
use Rattle.lsp.specs.declared.method.RangeKind.{RangeKind}
use Rattle.lsp.specs.declared.method.RangeKind.TheVariants.{Folding, Selection, Highlight}

-- positions are asked for behind the document
places_without : (kind : RangeKind) (d : Data) → places_form kind (without_key (codes "textDocument") d) ≡ places_form kind d
places_without Folding d = refl
places_without Selection d = ap (λ f. under (codes "positions") (required_by (list_of position_form) f)) (field_without (codes "positions") (codes "textDocument") d refl)
places_without Highlight d =
    ap (λ f. ◌>>=◌ (under (codes "position") (required_by position_form f)) (λ place. right (place ∷ []))) (field_without (codes "position") (codes "textDocument") d refl)

-- the same of the members that are left
places_of_left : (kind : RangeKind) (members left : Data) → left ≡ without_key (codes "textDocument") members → places_form kind members ≡ places_form kind left
places_of_left kind members left l = sym (places_without kind members) ∙ ap (places_form kind) (sym l)

pub uri_told : (kind : RangeKind) (ds : Documents) (params members : Data) (e : Fault) → params ≡ members → Tells (uri_form members) e → Tells (asked_places kind ds params) e
uri_told kind ds params members e p t = λ is. rw (p, t is) refl

pub places_told : (kind : RangeKind) (ds : Documents) (params members left : Data) (uri : List ℕ) (e : Fault) → params ≡ members → uri_form members ≡ right uri → left ≡ without_key (codes "textDocument") members → Tells (places_form kind left) e
    → Tells (asked_places kind ds params) e
places_told kind ds params members left uri e p u l t = λ is. rw (p, u, places_of_left kind members left l ∙ t is) refl

pub document_told : (kind : RangeKind) (ds : Documents) (params members left : Data) (uri : List ℕ) (places : List Point) (e : Fault) → params ≡ members → uri_form members ≡ right uri → left ≡ without_key (codes "textDocument") members
    → places_form kind left ≡ right places → Tells (open_document (document_in ds uri)) e → Tells (asked_places kind ds params) e
document_told kind ds params members left uri places e p u l s t = λ is. rw (p, u, places_of_left kind members left l ∙ s, t is) refl

pub places_asked : (kind : RangeKind) (ds : Documents) (params members left : Data) (uri : List ℕ) (places : List Point) (d : Document) → params ≡ members → uri_form members ≡ right uri → left ≡ without_key (codes "textDocument") members
    → places_form kind left ≡ right places → open_document (document_in ds uri) ≡ right d → asked_places kind ds params ≡ right (d, places)
places_asked kind ds params members left uri places d p u l s o = rw (p, u, places_of_left kind members left l ∙ s, o) refl
