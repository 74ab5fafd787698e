use Rattle.source_listing.proofs.Common.{rules, ◌+◌, Bool, map, filter, ap, ◌∙◌, Listed, listed_view, choice_view, is_chosen}
use Rattle.std.proofs.lemmas.Fn.{filter_same}
use Rattle.source_listing.proofs.ChosenRows.{filter-seen}
use Rattle.source_listing.proofs.lines.Choice.members_at.Goals as goal

pub returns : goal.returns
returns c =
    let test : Listed → Bool = λ m. is_chosen (choice_view c.args.self) (c.args.level + 1) m.is_active in
    let kept = filter_same _ (λ x. test (listed_view x)) _ (λ x b f k. search rules) _ _ c.retain.ensures.filtered in
    ap (map listed_view) kept ∙ filter-seen listed_view test c.in_ok-members.members.items ∙ ap (filter test) c.in_ok-members.ensures
