use Rattle.std.proofs.Common.{◌<◌, length, sym, subst, ◌∙◌, arith}
use Rattle.source_rows.proofs.Common.{Tokens, shorter}
use Rattle.source_rows.proofs.Steps.{end_some}
use Rattle.source_rows.proofs.headers.spaced_tokens.Goals as goal

pub tokens-smaller : goal.tokens-smaller
tokens-smaller c =
    let some = end_some _ _ _ c.tokens.cursor (sym c.is_over.ensures ∙ c.tokens-test.true) in
    let less = shorter c.tokens.cursor some in
    subst (λ (us : Tokens). length us.left < length c.tokens.cursor.left) (sym c.bump.ensures) (omega (arith, less))
