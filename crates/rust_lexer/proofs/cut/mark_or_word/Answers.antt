use Rattle.std.proofs.Common.{sym, ap, ◌∙◌}
use Rattle.rust_lexer.proofs.Common.{cut, is_significant_kind}
use Rattle.rust_lexer.proofs.FrequentTokens.{mark_first, letter_first, symbol_counts}
use Rattle.rust_lexer.proofs.WholeTokens.{mark_whole, word_whole}
use Rattle.rust_lexer.proofs.cut.mark_or_word.Goals as goal

pub returns-then-is_mark-clause-value : goal.returns-then-is_mark-clause-value
returns-then-is_mark-clause-value c =
    ap (λ k. cut k 0) c.symbol_kind.ensures ∙ sym (mark_first c.args.first c.args.z.now (sym c.is_mark.ensures ∙ c.if-is_mark.true))

pub returns-then-is_mark-clause-whole : goal.returns-then-is_mark-clause-whole
returns-then-is_mark-clause-whole c = mark_whole c.args.first c.args.z.now (sym c.is_mark.ensures ∙ c.if-is_mark.true) c.requires

pub returns-then-is_mark-clause-significant : goal.returns-then-is_mark-clause-significant
returns-then-is_mark-clause-significant c = ap is_significant_kind c.symbol_kind.ensures ∙ symbol_counts c.args.first

pub returns-then-is_letter-clause-value : goal.returns-then-is_letter-clause-value
returns-then-is_letter-clause-value c =
    c.plain.ensures.value ∙ sym (letter_first c.args.first c.args.z.now (sym c.is_letter.ensures ∙ c.if-is_letter.true))

pub returns-then-is_letter-clause-whole : goal.returns-then-is_letter-clause-whole
returns-then-is_letter-clause-whole c = word_whole c.plain.result.len c.args.z.now (ap (λ k. k.len) c.plain.ensures.value)

pub returns-then-is_letter-clause-significant : goal.returns-then-is_letter-clause-significant
returns-then-is_letter-clause-significant c = ap (λ k. is_significant_kind k.kind) c.plain.ensures.value
