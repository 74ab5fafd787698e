use Rattle.std.proofs.Common.{◌≡◌, map, take}
use Rattle.source_changes.specs.Inner.{frame_view}
use Rattle.source_changes.specs.Moves.{frames_at}
use Rattle.source_changes.proofs.moved.frames_at.Given as goal

abbrev pub invariant-loop-frame : goal.invariant-loop-frame
invariant-loop-frame l = map frame_view l.left.items ≡ frames_at l.place (map frame_view (take l.frame-index l.frames))
