use Rattle.std.proofs.Common.{◌≡◌, drop}
use Rattle.lsp.specs.Highlight.{is_highlighted}
use Rattle.lsp.proofs.highlight.is_marked.Given as goal

abbrev pub invariant-loop-mark : goal.invariant-loop-mark
invariant-loop-mark l = is_highlighted l.at l.marks ≡ is_highlighted l.at (drop l.mark-index l.marks)
