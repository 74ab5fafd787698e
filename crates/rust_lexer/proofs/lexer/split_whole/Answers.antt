use Rattle.std.proofs.Common.{◌+◌, Some, arith, ◌∙◌, sym, ap}
use Rattle.rust_lexer.proofs.Common.{Piece}
use Rattle.rust_lexer.proofs.Boundaries.{split_is, whole_leads}
use Rattle.rust_lexer.proofs.lexer.split_whole.Goals as goal

pub split_at-requires : goal.split_at-requires
split_at-requires c = (omega arith, λ below. whole_leads c.args.text.now (c.args.cut.len + 1) c.requires.whole)

pub returns-clause-value : goal.returns-clause-value
returns-clause-value c =
    split_is c.args.cut c.args.at (c.args.cut.len + 1) c.args.text.now c.split_at.result.0.now c.split_at.result.1.now c.requires.within
    (omega (arith, c.requires.whole)) c.split_at.ensures.front c.split_at.ensures.back
    ∙ ap (λ (t : Piece). Some (t, c.split_at.result.1.now)) (sym c.new.ensures)
