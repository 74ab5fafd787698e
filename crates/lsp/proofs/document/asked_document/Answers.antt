use Rattle.std.proofs.Common.{rules, ◌≡◌, string_bytes, sym, subst}
use Rattle.serde_json.specs.View.{view}
use Rattle.hir_input_json.specs.Reading.{right}
use Rattle.lsp.specs.Documents.{document_in, open_document}
use Rattle.lsp.specs.Views.{document_view, documents_view}
use Rattle.lsp.proofs.Documents.{document_asked}
use Rattle.lsp.proofs.document.asked_document.Goals as goal

pub returns : goal.returns
returns c =
    let ds = documents_view c.args.documents.now in
    let d = document_view c.in_ok-document.document.now in
    let named : string_bytes c.in_ok-uri.uri ≡ c.deref.result.now = search rules in
    document_asked ds (view c.args.params) (string_bytes c.in_ok-uri.uri) d c.in_ok-uri.ensures
    (subst (λ uri. open_document (document_in ds uri) ≡ right d) (sym named) c.in_ok-document.ensures)
