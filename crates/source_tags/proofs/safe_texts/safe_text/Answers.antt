use Rattle.source_tags.proofs.Common.{sym, ap, ◌∙◌, map-id, flat_map, YieldsList-end, safe_char}
use Rattle.std.proofs.lemmas.Iterator.{YieldsList-from_chars}
use Rattle.source_tags.proofs.safe_texts.safe_text.Goals as goal

pub returns : goal.returns
returns c =
    let all = YieldsList-end (YieldsList-from_chars c.args.text.now c.utf8.text cc) c.loop-c.yielded _ c.loop-c.yielded_by _ _ c.in-None.is c.next.ensures.steps in
    c.loop-c.invariant ∙ ap (flat_map safe_char) (sym (map-id c.loop-c.yielded) ∙ all.0)
