use Rattle.std.proofs.Common.{◌≡◌, ap, map, refl, subst, ◌∙◌, flat_map, IfOk}
use Rattle.source_changes.proofs.SeenLists.{matched_as}
use Rattle.source_changes.proofs.Common.{row_change_of, same_text, row_change_view, text_row_view, labelled_view, row_match}
use Rattle.source_changes.proofs.row_changes.changes.Goals as goal

pub returns : goal.returns
returns c =
    let olds = ap (map labelled_view) c.deref.ensures.value ∙ c.in_ok-olds.ensures in
    let news = ap (map labelled_view) c.deref-2.ensures.value ∙ c.in_ok-news.ensures in
    let found =
    matched_as (λ a b. same_text a.now b.now) same_text labelled_view (λ r. r.label) (λ a b. refl) c.deref.result.now c.deref-2.result.now (map text_row_view c.args.old.now) (map text_row_view c.args.new.now) olds news c.in_ok-found.found.items c.in_ok-found.ensures in
    subst (λ ms. IfOk c.changes_of.result (λ v. map row_change_view v.items ≡ flat_map row_change_of ms)) (ap (map row_match) c.deref-3.ensures.value ∙ found) c.changes_of.ensures
