use Rattle.std.proofs.Common.{◌+◌, ◌∷◌, [], map, sym, ap, ◌∙◌, subst, take, get_or}
use Rattle.source_session.proofs.Common.{map-append, AllZip, IsShowValue, Session}
use Rattle.serde_json.specs.View.{view}
use Rattle.source_session.proofs.NamedCrates.{zip_more}
use Rattle.source_session.proofs.shown.show_all.Goals as goal

pub loop-show-preserved : goal.loop-show-preserved
loop-show-preserved c =
    let u = c.args.session.now.session in
    let shows = c.args.shows.now in
    let i = c.loop-show.show-index in
    let old = c.loop-show.invariant in
    let value = c.in_ok-show_one.field-0 in
    let values = map view c.loop-show.values.items in
    let here = subst (λ show. IsShowValue c.loop-show.session.session show (view value)) c.show-item.is c.in_ok-show_one.ensures.shown in
    let shown = subst (λ (s : Session). IsShowValue s (get_or shows i c.show-item.result) (view value)) old.1 here in
    let pushed = ap (map view) c.in_ok-push.ensures.items ∙ map-append view c.loop-show.values.items (value ∷ []) in (
      subst (AllZip (IsShowValue u) (take (i + 1) shows)) (sym pushed) (zip_more (IsShowValue u) shows values i c.show-item.result (view value) c.loop-show-test.true old.0 shown),
      c.show_one.ensures.same ∙ old.1,
    )
