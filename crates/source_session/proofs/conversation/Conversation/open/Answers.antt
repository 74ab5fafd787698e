use Rattle.std.proofs.Common.{subst, sym}
use Rattle.source_session.proofs.Common.{IsOwn, Session, crate_count}
use Rattle.source_session.proofs.NamedCrates.{own_opened}
use Rattle.source_session.proofs.conversation.Conversation.open.Goals as goal

pub perform-outcome-requires : goal.perform-outcome-requires
perform-outcome-requires c =
    let first = c.in_ok-first.first in
    subst (λ (s : Session). IsOwn (crate_count s) first.asked) (sym c.open_session-session.ensures) (own_opened first.settings first.asked c.in_ok-first.ensures.own)
