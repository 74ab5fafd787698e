use Rattle.std.proofs.Common.{IfSome, sym, subst}
use Rattle.text_session.proofs.Common.{AreDistinct, File, IsPlaced, IsSetTo, present}
use Rattle.text_session.proofs.KeptTexts.{if_lent}
use Rattle.text_session.specs.Sessions.{Indexed}
use Rattle.text_session.proofs.session.Session.text.Goals as goal

pub returns-clause-read : goal.returns-clause-read
returns-clause-read c =
    let x = c.self.inside in
    let r = c.text_of.result in
    let syntax = present x.sources (File c.args.file) in
    let read = if_lent (IsSetTo x.edition.year syntax) r (subst (λ t. IfSome t (IsSetTo x.edition.year syntax)) (sym c.text_of.ensures) (c.self.invariant.read c.args.file.0)) in
    subst (λ (s : Indexed). IfSome r (λ t. IsSetTo s.session.edition.0 (present s.session.table (File c.args.file)) t.now)) c.self.view_is read

pub returns-clause-ids : goal.returns-clause-ids
returns-clause-ids c = if_lent (λ t. AreDistinct t.places.items) c.text_of.result (subst IsPlaced (sym c.text_of.ensures) (c.self.invariant.placed c.args.file.0))
