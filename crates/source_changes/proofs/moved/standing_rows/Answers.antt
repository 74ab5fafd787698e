use Rattle.std.proofs.Common.{◌≡◌, [], IfOk, ap, map, subst, zip, ◌∙◌}
use Rattle.source_changes.specs.Matches.{ranks, same_keys}
use Rattle.source_changes.specs.Inner.{standing_row_view}
use Rattle.source_changes.specs.Moves.{standings_from}
use Rattle.source_changes.proofs.Common.{row_part, same_text, text_row_view}
use Rattle.source_changes.proofs.StandingRows.{ranks_of_rows}
use Rattle.source_changes.proofs.moved.standing_rows.Goals as goal

pub returns : goal.returns
returns c =
    let rows = c.args.rows.now in
    let numbers = c.deref-2.ensures.value ∙ c.in_ok-ranks.ensures ∙ ap (ranks (same_keys (λ a b. same_text a.now b.now))) c.deref.ensures.value ∙ ranks_of_rows c.in_ok-labelled.labelled.items rows c.in_ok-labelled.ensures in
    subst (λ ns. IfOk c.standing_rows_in.result (λ v. map standing_row_view v.items ≡ zip (standings_from [] (map row_part rows) ns) (map text_row_view rows))) numbers c.standing_rows_in.ensures
