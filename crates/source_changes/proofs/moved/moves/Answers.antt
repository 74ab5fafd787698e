use Rattle.std.proofs.Common.{◌≡◌, ap, map, refl, subst, ◌∙◌, flat_map, IfOk}
use Rattle.source_changes.proofs.SeenLists.{matched_pairs}
use Rattle.source_changes.specs.Inner.{standing_row_view}
use Rattle.source_changes.specs.Moves.{same_standing}
use Rattle.source_changes.specs.contracts.moved.StandingPartialEq.TheImpl as keys
use Rattle.source_changes.proofs.Common.{row_change_of, row_change_view, row_match}
use Rattle.source_changes.proofs.moved.moves.Goals as goal

pub returns : goal.returns
returns c =
    let olds = ap (map standing_row_view) c.deref.ensures.value ∙ c.in_ok-olds.ensures in
    let news = ap (map standing_row_view) c.deref-2.ensures.value ∙ c.in_ok-news.ensures in
    let found = matched_pairs keys.ghosts.eq same_standing standing_row_view (λ a b. refl) c.deref.result.now c.deref-2.result.now _ _ olds news c.in_ok-found.found.items c.in_ok-found.ensures in
    subst (λ ms. IfOk c.changes_of.result (λ v. map row_change_view v.items ≡ flat_map row_change_of ms)) (ap (map row_match) c.deref-3.ensures.value ∙ found) c.changes_of.ensures
