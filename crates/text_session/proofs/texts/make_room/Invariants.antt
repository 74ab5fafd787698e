-- the texts are as they were, and there is room for those of the changes so far
use Rattle.std.proofs.Common.{◌≡◌, ℕ, All, take}
use Rattle.text_session.proofs.Common.{HasSlotFor, text_in}
use Rattle.text_session.proofs.texts.make_room.Given as goal

abbrev pub invariant-loop-change : goal.invariant-loop-change
invariant-loop-change l =
    ((f : ℕ) → text_in l.texts.entries f ≡ text_in l.fn.texts.entries f)
    × All (HasSlotFor l.texts.entries) (take l.change-index l.changes)
