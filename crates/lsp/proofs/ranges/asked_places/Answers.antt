use Rattle.std.proofs.Common.{rules, ◌≡◌, ◌∙◌, Err, ap, string_bytes, subst, sym}
use Rattle.serde_json.specs.View.{view}
use Rattle.hir_input_json.specs.Held.{object_held}
use Rattle.hir_input_json.specs.Reading.{right}
use Rattle.hir_input_json.specs.Reads.{Reads}
use Rattle.lsp.specs.Ranges as spec
use Rattle.lsp.specs.Views.{document_view, documents_view}
use Rattle.lsp.proofs.AskedRanges.{document_told, places_asked, places_told}
use Rattle.lsp.proofs.ranges.asked_places.Goals as goal

pub returns-in_err-places : goal.returns-in_err-places
returns-in_err-places c =
    let ds = documents_view c.args.documents.now in
    let params = view c.args.params in
    let e = c.in_err-places.field-0.0 in
    let is : c.from_residual-in_err-places.result ≡ Err e = search rules in
    subst (λ r. Reads (λ asked. (document_view asked.0.now, asked.1.items)) r (spec.asked_places c.args.kind ds params)) (sym is)
    (places_told c.args.kind ds params (object_held c.in_ok-members.members) (object_held c.named_at.new.members) (string_bytes c.in_ok-uri.uri) e c.in_ok-members.ensures c.in_ok-uri.ensures.reads c.in_ok-uri.ensures.left c.in_err-places.ensures)

pub returns-in_err-document : goal.returns-in_err-document
returns-in_err-document c =
    let ds = documents_view c.args.documents.now in
    let params = view c.args.params in
    let named : string_bytes c.in_ok-uri.uri ≡ c.deref.result.now = search rules in
    let e = c.in_err-document.field-0.0 in
    let is : c.from_residual-in_err-document.result ≡ Err e = search rules in
    subst (λ r. Reads (λ asked. (document_view asked.0.now, asked.1.items)) r (spec.asked_places c.args.kind ds params)) (sym is)
    (document_told c.args.kind ds params (object_held c.in_ok-members.members) (object_held c.named_at.new.members) c.deref.result.now c.in_ok-places.places.items e c.in_ok-members.ensures (c.in_ok-uri.ensures.reads ∙ ap right named) c.in_ok-uri.ensures.left c.in_ok-places.ensures c.in_err-document.ensures)

pub returns : goal.returns
returns c =
    let named : string_bytes c.in_ok-uri.uri ≡ c.deref.result.now = search rules in
    places_asked c.args.kind (documents_view c.args.documents.now) (view c.args.params) (object_held c.in_ok-members.members) (object_held c.named_at.new.members) c.deref.result.now c.in_ok-places.places.items (document_view c.in_ok-document.document.now)
    c.in_ok-members.ensures (c.in_ok-uri.ensures.reads ∙ ap right named) c.in_ok-uri.ensures.left c.in_ok-places.ensures c.in_ok-document.ensures
