use Rattle.std.proofs.Common.{◌+◌, ◌∷◌, ◌∙◌, sym, ap, length}
use Rattle.rust_lexer.proofs.Common.{is_nil, pieces, tokens_from}
use Rattle.rust_lexer.proofs.Steps.{some_left}
use Rattle.rust_lexer.proofs.lexer.Lexer.next_frequent.Goals as goal

pub returns : goal.returns
returns c =
    let w = c.in_ok-token in
    let from = c.self.inside.at in
    let at = from + length c.text.result.now in (
      w.ensures.significant,
      ap (λ f. is_nil (pieces f at w.rest.now)) c.in-Token.is ∙ some_left at w.rest.now w.ensures.more,
      sym c.self.view_is ∙ ap (λ f. pieces f from c.self.inside.rest.now) c.in-Token.is ∙ w.ensures.value
          ∙ ap (λ n. w.token ∷ tokens_from 0 (from + length n) w.rest.now) (sym c.text.ensures) ∙ ap (λ f. w.token ∷ pieces f at w.rest.now) (sym c.in-Token.is),
    )
