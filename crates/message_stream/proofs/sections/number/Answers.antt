use Rattle.message_stream.proofs.FieldLines.{number_utf8}
use Rattle.message_stream.proofs.sections.number.Goals as goal

pub returns-in-Err-clause-none : goal.returns-in-Err-clause-none
returns-in-Err-clause-none c n is = absurd (c.in-Err.ensures.cases.0 (number_utf8 c.args.value.now n is))
