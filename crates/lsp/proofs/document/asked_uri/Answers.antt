use Rattle.std.proofs.Common.{string_bytes, sym, subst}
use Rattle.hir_input_json.specs.Reads.{Reads}
use Rattle.lsp.specs.Documents.{uri_form}
use Rattle.lsp.proofs.document.asked_uri.Goals as goal

pub returns : goal.returns
returns c = subst (λ d. Reads string_bytes c.named_at.result (uri_form d)) (sym c.in_ok-members.ensures) c.named_at.ensures.reads
