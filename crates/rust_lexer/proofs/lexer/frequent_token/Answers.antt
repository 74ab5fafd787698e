use Rattle.rust_lexer.proofs.Steps.{first_next}
use Rattle.rust_lexer.proofs.lexer.frequent_token.Goals as goal

pub returns-else-is_empty-clause-value : goal.returns-else-is_empty-clause-value
returns-else-is_empty-clause-value c =
    first_next c.args.at c.args.text.now c.as_bytes.result.now c.in_ok-cut-in-len1-up.cut c.split_whole-token.result.0 c.split_whole-token.result.1.now c.as_bytes.ensures.value c.in-len1-up.len_at_least c.in_ok-cut-in-len1-up.ensures.value
    c.split_whole-token.ensures.value
