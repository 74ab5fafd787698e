use Rattle.message_stream.proofs.FieldLines.{first_unsaid, none_unsaid, on_none}
use Rattle.message_stream.proofs.sections.length_in.Goals as goal

pub returns-then-says_length-clause-none : goal.returns-then-says_length-clause-none
returns-then-says_length-clause-none c =
    on_none c.number.result (first_unsaid c.loop-left.left.now c.args.fields.now _ c.loop-left.invariant c.in-len1-up.len_at_least (c.says_length.ensures.0 c.if-says_length.true)) c.number.ensures.none

pub returns-clause-none : goal.returns-clause-none
returns-clause-none c = none_unsaid c.loop-left.left.now c.args.fields.now c.loop-left.invariant c.in_default.len_below
