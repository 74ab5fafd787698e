use Rattle.std.proofs.Common.{◌≡◌, None, Some, IfOk, ap, sym, ◌∙◌, subst}
use Rattle.serde_json.specs.View.{view}
use Rattle.source_session.proofs.Common.{IsValueUnless, State, unset_place}
use Rattle.source_session.proofs.shown.show_one.Goals as goal

pub returns-in-Some-clause-shown : goal.returns-in-Some-clause-shown
returns-in-Some-clause-shown c =
    let u = c.args.session.now.session in
    let show = c.args.show.now in
    let unset : unset_place u.table show ≡ Some c.in-Some.place = ap (λ (s : State). unset_place s show) (sym c.sources.ensures) ∙ sym c.unset_place.ensures ∙ c.in-Some.is in
    subst (λ o. IfOk c.unset_value.result (λ value. IsValueUnless o u show (view value))) (sym unset) c.unset_value.ensures

pub returns-in-None-clause-shown : goal.returns-in-None-clause-shown
returns-in-None-clause-shown c =
    let u = c.args.session.now.session in
    let show = c.args.show.now in
    let set : unset_place u.table show ≡ None = ap (λ (s : State). unset_place s show) (sym c.sources.ensures) ∙ sym c.unset_place.ensures ∙ c.in-None.is in
    subst (λ o. IfOk c.present_value.result (λ value. IsValueUnless o u show (view value))) (sym set) c.present_value.ensures.shown
