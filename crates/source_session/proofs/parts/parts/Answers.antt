use Rattle.std.proofs.Common.{◌∙◌}
use Rattle.std.proofs.lemmas.Iterator.Splits.{YieldsList-from_str_split}
use Rattle.std.proofs.lemmas.Iterator.Consumers.{YieldsList-end}
use Rattle.source_session.proofs.parts.parts.Goals as goal

pub returns : goal.returns
returns c =
    let all = YieldsList-end (YieldsList-from_str_split c.args.mark c.args.text.now c.requires (cc) (cc) (cc)) c.loop-part.yielded _ c.loop-part.yielded_by _ _ c.in-None.is c.next.ensures.steps in
    c.loop-part.invariant ∙ all.0
