use Rattle.source_listing.proofs.Common.{sym, ap, ◌∙◌, map-id, flat_map, YieldsList-end}
use Rattle.source_listing.specs.Patterns.{letter_for}
use Rattle.std.proofs.lemmas.Iterator.{YieldsList-from_chars}
use Rattle.source_listing.proofs.patterns.with_letters.Goals as goal

pub returns : goal.returns
returns c =
    let all = YieldsList-end (YieldsList-from_chars c.args.word.now c.utf8.word cc) c.loop-c.yielded _ c.loop-c.yielded_by _ _ c.in-None.is c.next.ensures.steps in
    c.loop-c.invariant ∙ ap (flat_map letter_for) (sym (map-id c.loop-c.yielded) ∙ all.0)
