use Rattle.std.proofs.Common.{sym, ap, ◌∙◌}
use Rattle.rust_lexer.specs.declared.kind.TokenKind.TheVariants as kind
use Rattle.rust_lexer.proofs.Common.{cut}
use Rattle.rust_lexer.proofs.FrequentTokens.{blank_first}
use Rattle.rust_lexer.proofs.WholeTokens.{white_whole}
use Rattle.rust_lexer.proofs.cut.frequent_cut.Goals as goal

pub returns-then-is_blank-clause-value : goal.returns-then-is_blank-clause-value
returns-then-is_blank-clause-value c =
    ap (cut kind.Whitespace) c.run.ensures.value ∙ sym (blank_first c.args.first c.args.z.now (sym c.is_blank.ensures ∙ c.if-is_blank.true))

pub returns-then-is_blank-clause-whole : goal.returns-then-is_blank-clause-whole
returns-then-is_blank-clause-whole c = white_whole c.run.result c.args.z.now c.run.ensures.value
