use Rattle.text_session.proofs.ListedTexts.{listed_is}
use Rattle.text_session.proofs.laws.lists.Goals as goal

pub returns : goal.returns
returns c = listed_is
