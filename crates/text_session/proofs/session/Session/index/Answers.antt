use Rattle.std.proofs.Common.{subst}
use Rattle.text_session.proofs.Common.{IsBehind, touched_keys}
use Rattle.text_session.proofs.Touching.{behind_still}
use Rattle.text_session.specs.Sessions.{Indexed}
use Rattle.text_session.proofs.session.Session.index.Goals as goal

pub returns-clause-behind : goal.returns-clause-behind
returns-clause-behind c =
    let x = c.self.inside in
    subst (λ (s : Indexed). IsBehind s.index s.session.table) c.self.view_is (behind_still x.index (touched_keys x.touched) x.sources c.self.invariant.behind)
