use Rattle.rust_lexer.proofs.Steps.{mark_next}
use Rattle.rust_lexer.proofs.lexer.mark.Goals as goal

pub returns-clause-value : goal.returns-clause-value
returns-clause-value c = mark_next c.args.at c.args.text.now c.split.result.0 c.split.result.1.now c.split.ensures.value
