use Rattle.std.proofs.Common.{rules, ◌≡◌, Err, None, Some, option_map, string_bytes, map, sym, ap, ◌∙◌}
use Rattle.std.specs.BTreeMap.{get_by_text}
use Rattle.serde_json.specs.View.{view}
use Rattle.lsp.specs.Documents.{document_in, with_document, without_document}
use Rattle.lsp.specs.Servers.{changed_by, changed_document}
use Rattle.lsp.specs.Views.{document_entry_view, document_view, documents_view}
use Rattle.lsp.proofs.Documents.{closed_unread, document_closed, document_found, name_found}
use Rattle.lsp.proofs.edits.change_document.Goals as goal

pub returns-in_default : goal.returns-in_default
returns-in_default c =
    let m = c.args.documents.now in
    let uri = c.args.uri.now in
    let docs = documents_view m in
    let none : get_by_text m uri ≡ None = search rules in
    let closed : document_in docs uri ≡ None = document_found m.entries uri ∙ ap (option_map document_view) none in
    let kept : documents_view c.remove_entry.new.self ≡ docs = ap (map document_entry_view) (search rules) in
    kept ∙ ap (λ o. changed_by docs uri (option_map (changed_document c.args.units (view c.args.params)) o)) (sym closed)

pub returns-in_err-change_text : goal.returns-in_err-change_text
returns-in_err-change_text c =
    let m = c.args.documents.now in
    let uri = c.args.uri.now in
    let docs = documents_view m in
    let new = documents_view c.remove_entry.new.self in
    let d = document_view c.in-Some.document in
    let changed = changed_document c.args.units (view c.args.params) in
    let e = c.in_err-change_text.field-0.0 in
    let is : c.from_residual.result ≡ Err e = search rules in
    let stood : document_in docs uri ≡ Some d = document_found m.entries uri ∙ ap (option_map document_view) (sym c.in-Some.ensures.value) in
    let left : new ≡ without_document docs uri = ap (map document_entry_view) c.in-Some.ensures.entries ∙ document_closed m.entries uri in
    closed_unread c.from_residual.result e docs new uri (option_map changed (document_in docs uri)) (changed d) is (ap (option_map changed) stood) c.in_err-change_text.ensures left

pub returns : goal.returns
returns c =
    let m = c.args.documents.now in
    let uri = c.args.uri.now in
    let docs = documents_view m in
    let d = document_view c.in-Some.document in
    let e = document_view c.change_text.new.document in
    let changed = changed_document c.args.units (view c.args.params) in
    let stood : document_in docs uri ≡ Some d = document_found m.entries uri ∙ ap (option_map document_view) (sym c.in-Some.ensures.value) in
    let left : documents_view c.remove_entry.new.self ≡ without_document docs uri = ap (map document_entry_view) c.in-Some.ensures.entries ∙ document_closed m.entries uri in
    let named = name_found uri c.in-Some.name c.in-Some.ensures.same_key in
    c.in_ok-put_document.ensures ∙ ap (λ ds. with_document ds (string_bytes c.in-Some.name) e) left ∙ ap (λ name. with_document (without_document docs uri) name e) (sym named)
    ∙ sym (ap (λ o. changed_by docs uri (option_map changed o)) stood ∙ ap (λ r. changed_by docs uri (Some r)) c.in_ok-change_text.ensures)
