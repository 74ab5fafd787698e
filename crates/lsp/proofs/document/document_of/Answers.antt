use Rattle.std.proofs.Common.{sym, subst}
use Rattle.hir_input_json.specs.Reads.{Reads}
use Rattle.lsp.specs.Documents.{open_form}
use Rattle.lsp.specs.Views.{document_entry_view}
use Rattle.lsp.proofs.document.document_of.Goals as goal

pub returns : goal.returns
returns c = subst (λ d. Reads document_entry_view c.opened_at.result (open_form d)) (sym c.in_ok-members.ensures) c.opened_at.ensures.reads
