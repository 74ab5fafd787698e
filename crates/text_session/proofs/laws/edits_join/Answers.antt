use Rattle.text_session.proofs.EditedSessions.{made_join}
use Rattle.text_session.proofs.laws.edits_join.Goals as goal

pub returns : goal.returns
returns c = made_join
