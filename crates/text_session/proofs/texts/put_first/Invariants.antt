-- the changes that are left lead where all lead, and there is room for them
use Rattle.std.proofs.Common.{◌≡◌, ℕ, All, take}
use Rattle.text_session.proofs.Common.{HasSlotFor, text_in, text_after}
use Rattle.text_session.proofs.texts.put_first.Given as goal

abbrev pub invariant-loop-change : goal.invariant-loop-change
invariant-loop-change l =
    ((f : ℕ) → text_after (text_in l.texts.entries) l.change-iterator.rest.items f ≡ text_after (text_in l.fn.texts.entries) (take l.fn.count l.fn.changes.items) f)
    × All (HasSlotFor l.texts.entries) l.change-iterator.rest.items
