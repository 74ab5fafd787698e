use Rattle.source_listing.proofs.Common.{rules, map, filter, ap, ◌∙◌, row_view, choice_view, is_listed}
use Rattle.std.proofs.lemmas.Fn.{filter_same}
use Rattle.source_listing.proofs.ChosenRows.{filter-seen}
use Rattle.source_listing.proofs.lines.Choice.rows.Goals as goal

pub returns : goal.returns
returns c =
    let test = is_listed (choice_view c.args.self) in
    let kept = filter_same _ (λ r. test (row_view r)) _ (λ x b f k. search rules) _ _ c.retain.ensures.filtered in
    ap (map row_view) kept ∙ filter-seen row_view test c.in_ok-rows.rows.items ∙ ap (filter test) c.in_ok-rows.ensures.rows
