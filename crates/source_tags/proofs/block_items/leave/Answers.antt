use Rattle.source_tags.proofs.Common.{rules, map, nat_lt, ap, ◌∙◌}
use Rattle.std.proofs.lemmas.Fn.{filter_same}
use Rattle.source_tags.specs.Inner.{holder_view}
use Rattle.source_listing.proofs.ChosenRows.{filter-seen}
use Rattle.source_tags.proofs.block_items.leave.Goals as goal

pub returns : goal.returns
returns c =
    let kept = filter_same _ (λ h. nat_lt c.args.place (holder_view h).end) _ (λ x b f k. search rules) _ _ c.retain.ensures.filtered in
    ap (map holder_view) kept ∙ filter-seen holder_view (λ h. nat_lt c.args.place h.end) c.args.holders.now.items
