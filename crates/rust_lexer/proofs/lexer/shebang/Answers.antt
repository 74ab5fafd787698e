use Rattle.rust_lexer.proofs.Steps.{shebang_next}
use Rattle.rust_lexer.proofs.lexer.shebang.Goals as goal

pub returns-in-len1-up-clause-value : goal.returns-in-len1-up-clause-value
returns-in-len1-up-clause-value c =
    shebang_next c.args.at c.args.text.now c.as_bytes.result.now c.run.result c.split.result.0 c.split.result.1.now c.as_bytes.ensures.value c.in-len1-up.len_at_least c.run.ensures.value c.split.ensures.value
