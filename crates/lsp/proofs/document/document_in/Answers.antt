use Rattle.std.proofs.Common.{rules, ◌≡◌, option_copied, option_map, sym, ap, ◌∙◌}
use Rattle.std.specs.BTreeMap.{get_by_text}
use Rattle.lsp.specs.Views.{document_view}
use Rattle.lsp.proofs.Documents.{document_found, lent_view}
use Rattle.lsp.proofs.document.document_in.Goals as goal

pub returns : goal.returns
returns c =
    let found : option_copied c.get.result ≡ get_by_text c.args.documents.now c.args.uri.now = search rules in
    lent_view c.get.result ∙ ap (option_map document_view) found ∙ sym (document_found c.args.documents.now.entries c.args.uri.now)
