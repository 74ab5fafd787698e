use Rattle.rust_lexer.proofs.Runs.{word_told}
use Rattle.rust_lexer.proofs.words.words.Goals as goal

pub returns-then-z-count-lt128-clause-value : goal.returns-then-z-count-lt128-clause-value
returns-then-z-count-lt128-clause-value c =
    word_told c.args.z.now c.plain.result c.trailing_ones-count.result c.if-z-ge-LANES.true c.plain.ensures.0 c.plain.ensures.1 c.trailing_ones-count.ensures c.if-count-lt-LANES.true c.if-z-count-lt128.true
