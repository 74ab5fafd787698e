-- the changes that are left lead where all lead
use Rattle.std.proofs.Common.{◌≡◌, length}
use Rattle.text_session.proofs.Common.{text_in, text_after}
use Rattle.text_session.proofs.texts.text_after.Given as goal

abbrev pub invariant-loop-last : goal.invariant-loop-last
invariant-loop-last l = text_after (text_in l.texts.entries) l.left l.file ≡ text_after (text_in l.texts.entries) l.initial.left l.file

abbrev pub decreases-loop-last : goal.decreases-loop-last
decreases-loop-last l = length l.left
