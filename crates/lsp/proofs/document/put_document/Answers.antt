use Rattle.std.proofs.Common.{map, ap, ◌∙◌}
use Rattle.lsp.specs.Views.{document_entry_view}
use Rattle.lsp.proofs.Documents.{document_put}
use Rattle.lsp.proofs.document.put_document.Goals as goal

pub returns : goal.returns
returns c = ap (map document_entry_view) c.in_ok-insert.ensures.entries ∙ document_put c.args.documents.now.entries c.args.uri c.args.document
