use Rattle.source_session.proofs.Feeds.{answer_no_feed}
use Rattle.source_session.proofs.laws.answers.Goals as goal

pub returns : goal.returns
returns c = answer_no_feed
