use Rattle.source_listing.proofs.Common.{◌≡◌, map, ap, subst, ◌∙◌, string_bytes, lit<, IfOk, filter, not, YieldsList-from_str_split, YieldsList-end}
use Rattle.source_listing.specs.Pages.{is_id_line, joined_lines}
use Rattle.source_listing.proofs.pages.without_ids.Goals as goal

pub returns : goal.returns
returns c =
    let all = YieldsList-end (YieldsList-from_str_split 10 c.args.page.now (lit< tt) (cc) (cc) (cc)) c.loop-line.yielded _ c.loop-line.yielded_by _ _ c.in-None.is c.next.ensures.steps in
    let kept = ap (map (λ x. x.now)) c.deref.ensures.value ∙ c.loop-line.invariant ∙ ap (filter (λ line. not (is_id_line line))) all.0 in
    subst (λ lines. IfOk c.joined_text.result (λ text. string_bytes text ≡ joined_lines lines)) kept c.joined_text.ensures
