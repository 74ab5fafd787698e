use Rattle.source_listing.proofs.Common.{◌∙◌, lit<, YieldsList-from_str_split, YieldsList-end}
use Rattle.source_listing.proofs.sought.words.Goals as goal

pub returns : goal.returns
returns c =
    let all = YieldsList-end (YieldsList-from_str_split 58 c.args.text.now (lit< tt) (cc) (cc) (cc)) c.loop-word.yielded _ c.loop-word.yielded_by _ _ c.in-None.is c.next.ensures.steps in
    c.loop-word.invariant ∙ all.0
