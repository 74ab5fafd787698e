use Rattle.rust_lexer.proofs.Steps.{first_next}
use Rattle.rust_lexer.proofs.lexer.first_token.Goals as goal

pub returns-in-Some-clause-value : goal.returns-in-Some-clause-value
returns-in-Some-clause-value c =
    first_next c.args.at c.args.text.now c.as_bytes.result.now c.in-Some.cut c.split_whole.result.0 c.split_whole.result.1.now c.as_bytes.ensures.value c.in-len1-up.len_at_least c.in-Some.ensures.value c.split_whole.ensures.value

pub returns-in-None-clause-value : goal.returns-in-None-clause-value
returns-in-None-clause-value c =
    first_next c.args.at c.args.text.now c.as_bytes.result.now c.any_cut.result c.split.result.0 c.split.result.1.now c.as_bytes.ensures.value c.in-len1-up.len_at_least c.any_cut.ensures.value c.split.ensures.value
