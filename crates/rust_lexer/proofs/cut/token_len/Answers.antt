use Rattle.std.proofs.Common.{◌∙◌, sym}
use Rattle.rust_lexer.proofs.Depths.{any_len, mark_len, white_len, word_len}
use Rattle.rust_lexer.proofs.cut.token_len.Goals as goal

pub returns-then-is_blank-clause-value : goal.returns-then-is_blank-clause-value
returns-then-is_blank-clause-value c = white_len c.args.first c.args.z.now c.run-then-is_blank.result (sym c.is_blank.ensures ∙ c.if-is_blank.true) c.run-then-is_blank.ensures.value

pub returns-then-is_letter-clause-value : goal.returns-then-is_letter-clause-value
returns-then-is_letter-clause-value c = word_len c.args.first c.args.z.now c.run-then-is_letter.result (sym c.is_letter.ensures ∙ c.if-is_letter.true) c.run-then-is_letter.ensures.value

pub returns-then-is_mark-clause-value : goal.returns-then-is_mark-clause-value
returns-then-is_mark-clause-value c = mark_len c.args.first c.args.z.now c.run.result (sym c.is_mark.ensures ∙ c.if-is_mark.true) c.run.ensures.value

pub returns-clause-value : goal.returns-clause-value
returns-clause-value c = any_len c.args.first c.args.z.now c.any_cut-len.result c.run-2.result c.any_cut-len.ensures.value c.run-2.ensures.value
