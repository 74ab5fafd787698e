use Rattle.std.proofs.Common.{map, ap, ◌∙◌}
use Rattle.lsp.specs.Views.{document_entry_view}
use Rattle.lsp.proofs.Documents.{document_closed}
use Rattle.lsp.proofs.document.close_document.Goals as goal

pub returns : goal.returns
returns c = ap (map document_entry_view) c.remove.ensures.entries ∙ document_closed c.args.documents.now.entries c.args.uri.now
