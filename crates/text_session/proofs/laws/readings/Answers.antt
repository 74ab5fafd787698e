use Rattle.text_session.proofs.ReadTexts.{set_edited}
use Rattle.text_session.proofs.laws.readings.Goals as goal

pub returns : goal.returns
returns c = set_edited
