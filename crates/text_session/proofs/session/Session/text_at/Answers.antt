use Rattle.std.proofs.Common.{IfSome, sym, subst}
use Rattle.text_session.proofs.Common.{AreDistinct, IsPlaced, IsSetTo, present}
use Rattle.text_session.proofs.KeptTexts.{if_lent, placed_at}
use Rattle.text_session.proofs.ReadTexts.{set_at}
use Rattle.text_session.specs.Sessions.{Indexed}
use Rattle.text_session.proofs.session.Session.text_at.Goals as goal

pub returns-clause-read : goal.returns-clause-read
returns-clause-read c =
    let x = c.self.inside in
    let r = c.text_at.result in
    let syntax = present x.sources c.args.place in
    let read = if_lent (IsSetTo x.edition.year syntax) r (subst (λ t. IfSome t (IsSetTo x.edition.year syntax)) (sym c.text_at.ensures) (set_at x.edition.year x.sources x.texts.entries c.self.invariant.read c.args.place)) in
    subst (λ (s : Indexed). IfSome r (λ t. IsSetTo s.session.edition.0 (present s.session.table c.args.place) t.now)) c.self.view_is read

pub returns-clause-ids : goal.returns-clause-ids
returns-clause-ids c = if_lent (λ t. AreDistinct t.places.items) c.text_at.result (subst IsPlaced (sym c.text_at.ensures) (placed_at c.self.inside.texts.entries c.self.invariant.placed c.args.place))
