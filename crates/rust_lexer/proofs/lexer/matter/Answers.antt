use Rattle.rust_lexer.proofs.Steps.{matter_next}
use Rattle.rust_lexer.proofs.lexer.matter.Goals as goal

pub returns-clause-value : goal.returns-clause-value
returns-clause-value c = matter_next c.args.len c.args.at c.args.text.now c.split.result.0 c.split.result.1.now c.split.ensures.value
