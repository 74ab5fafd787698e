use Rattle.lsp.proofs.OpenedDocuments.{as_just_opened}
use Rattle.lsp.proofs.laws.opened.Goals as goal

pub returns : goal.returns
returns c = as_just_opened
