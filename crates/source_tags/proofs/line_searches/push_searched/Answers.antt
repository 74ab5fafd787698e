use Rattle.source_tags.proofs.Common.{sym, ap, ◌∙◌, ◌++◌, map-id, flat_map, string_bytes, YieldsList-end}
use Rattle.source_tags.specs.LineSearches.{searched_char}
use Rattle.std.proofs.lemmas.Iterator.{YieldsList-from_chars}
use Rattle.source_tags.proofs.line_searches.push_searched.Goals as goal

pub returns : goal.returns
returns c =
    let all = YieldsList-end (YieldsList-from_chars c.args.text.now c.utf8.text cc) c.loop-c.yielded _ c.loop-c.yielded_by _ _ c.in-None.is c.next.ensures.steps in
    c.loop-c.invariant ∙ ap (λ cs. string_bytes c.args.out.now ++ flat_map searched_char cs) (sym (map-id c.loop-c.yielded) ∙ all.0)
