use Rattle.text_session.proofs.Common.{edit_view}
use Rattle.text_session.proofs.Touching.{touched_one}
use Rattle.text_session.proofs.touched.with_touched.Goals as goal

pub returns-in-Ok : goal.returns-in-Ok
returns-in-Ok c = touched_one c.args.places c.insert.new.self c.in_ok-place.place (edit_view c.args.edit.now) c.in-Ok.ensures.updates c.in_ok-place.ensures
