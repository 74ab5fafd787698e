use Rattle.std.proofs.Common.{◌∙◌, sym}
use Rattle.rust_lexer.proofs.FrequentTokens.{slash_first}
use Rattle.rust_lexer.proofs.cut.any_cut.Goals as goal

pub returns-then-first-eq47-clause-value : goal.returns-then-first-eq47-clause-value
returns-then-first-eq47-clause-value c = c.slash.ensures.value ∙ sym (slash_first c.args.first c.args.z.now c.if-first-eq47.true)
