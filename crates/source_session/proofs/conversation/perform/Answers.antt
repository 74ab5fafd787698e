use Rattle.std.proofs.Common.{◌≡◌, Err, inr, map, refl, rules, sym, subst}
use Rattle.source_session.proofs.Common.{AllZip, OutOfMemory, Session, text_edit_view, outcome_view, asked_view, IsCarriedOut, IsEdited, IsShowValue}
use Rattle.serde_json.specs.View.{view}
use Rattle.source_session.proofs.NamedCrates.{edits_known, no_float_in_shown}
use Rattle.source_session.proofs.conversation.perform.Goals as goal

pub edit-requires : goal.edit-requires
edit-requires c = edits_known c.args.session.now.session.table c.args.asked.edits.items c.requires.edits

pub returns-in_err-values-clause-done : goal.returns-in_err-values-clause-done
returns-in_err-values-clause-done c =
    let s = c.args.session.now.session in
    let u = c.show_all.new.session.session in
    let asked = map text_edit_view c.args.asked.edits.items in
    let is : c.from_residual-in_err-values.result ≡ Err OutOfMemory = search rules in
    let edited = subst (IsEdited s asked) (sym c.show_all.ensures.same) c.in_ok-edit.ensures.edited in
    subst (λ r. IsCarriedOut s (asked_view c.args.asked) u (outcome_view r)) (sym is) (inr (edited, refl))

pub returns-clause-done : goal.returns-clause-done
returns-clause-done c =
    let s = c.args.session.now.session in
    let asked = map text_edit_view c.args.asked.edits.items in
    let values = map view c.in_ok-values.values.items in
    let over = subst (λ shows. AllZip (IsShowValue c.edit.new.self.session) shows values) c.deref.ensures.value c.in_ok-values.ensures.shown in (
      subst (IsEdited s asked) (sym c.show_all.ensures.same) c.in_ok-edit.ensures.edited,
      subst (λ (u : Session). AllZip (IsShowValue u) c.args.asked.shows.items values) (sym c.show_all.ensures.same) over,
    )

pub returns-clause-no_float : goal.returns-clause-no_float
returns-clause-no_float c =
    let u = c.edit.new.self.session in
    let values = map view c.in_ok-values.values.items in
    no_float_in_shown u c.args.asked.shows.items values (subst (λ shows. AllZip (IsShowValue u) shows values) c.deref.ensures.value c.in_ok-values.ensures.shown)
