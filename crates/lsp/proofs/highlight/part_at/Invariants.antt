use Rattle.std.proofs.Common.{◌≡◌, drop}
use Rattle.lsp.specs.Highlight.{marks_at}
use Rattle.lsp.proofs.highlight.part_at.Given as goal

abbrev pub invariant-loop-part : goal.invariant-loop-part
invariant-loop-part l = marks_at l.at l.parts ≡ marks_at l.at (drop l.part-index l.parts)
