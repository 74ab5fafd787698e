use Rattle.std.proofs.Common.{All, ◌∙◌, subst}
use Rattle.text_session.proofs.Common.{take_all, HasSlotFor}
use Rattle.text_session.proofs.KeptTexts.{room_more}
use Rattle.text_session.proofs.texts.make_room.Goals as goal

pub loop-change-preserved : goal.loop-change-preserved
loop-change-preserved c =
    let old = c.loop-change.texts.entries in
    let new = c.room_for.new.texts.entries in
    let i = c.loop-change.change-index in (
      λ f. c.room_for.ensures.texts f ∙ c.loop-change.invariant.0 f,
      room_more old new c.args.changes.now i c.change-item.result c.loop-change-test.true c.room_for.ensures.slots c.loop-change.invariant.1 (subst (HasSlotFor new) c.change-item.is c.in_ok-room_for.ensures.room),
    )

pub returns-clause-room : goal.returns-clause-room
returns-clause-room c = subst (All (HasSlotFor c.loop-change.texts.entries)) (take_all c.loop-change.change-index c.args.changes.now c.loop-change-test.false) c.loop-change.invariant.1
