use Rattle.std.proofs.Common.{◌≡◌, drop}
use Rattle.lsp.specs.Selection.{whole_chain, with_parts}
use Rattle.lsp.specs.Views.{chain_view}
use Rattle.lsp.proofs.selection.selection_at.Given as goal

abbrev pub invariant-loop-part : goal.invariant-loop-part
invariant-loop-part l =
    let p = l.fn.page in with_parts p.units p.text.now l.at p.parts.now (whole_chain p.units p.text.now) ≡ with_parts p.units p.text.now l.at (drop l.part-index p.parts.now) (chain_view l.chain)
