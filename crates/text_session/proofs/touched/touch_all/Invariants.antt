-- the places are the old ones and those that the edits so far touch
use Rattle.std.proofs.Common.{map, take}
use Rattle.text_session.proofs.Common.{edit_view, AreTouched, touched_keys}
use Rattle.text_session.proofs.touched.touch_all.Given as goal

abbrev pub invariant-loop-edit : goal.invariant-loop-edit
invariant-loop-edit l = AreTouched (map edit_view (take l.edit-index l.edits)) (touched_keys l.fn.touched) (touched_keys l.touched)
