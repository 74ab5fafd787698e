use Rattle.std.proofs.Common.{◌∙◌, sym}
use Rattle.rust_lexer.proofs.Gaps.{gap_begins, gap_behind}
use Rattle.rust_lexer.proofs.depth.past_gap.Goals as goal

pub returns-then-is_clean-clause-same : goal.returns-then-is_clean-clause-same
returns-then-is_clean-clause-same c =
    gap_behind c.args.count c.stop_from-stop.result c.args.bytes.now c.stop_from-stop.ensures.value (sym c.is_clean.ensures ∙ c.if-is_clean.true)

pub returns-then-is_clean-clause-begins : goal.returns-then-is_clean-clause-begins
returns-then-is_clean-clause-begins c =
    gap_begins c.args.count c.stop_from-stop.result c.args.bytes.now c.stop_from-stop.ensures.value (sym c.is_clean.ensures ∙ c.if-is_clean.true)
