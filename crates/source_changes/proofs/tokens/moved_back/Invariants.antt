use Rattle.std.proofs.Common.{◌≡◌, map, take}
use Rattle.source_changes.proofs.Common.{moved_back}
use Rattle.source_changes.proofs.tokens.moved_back.Given as goal

abbrev pub invariant-loop-hole : goal.invariant-loop-hole
invariant-loop-hole l = l.moved.items ≡ map (moved_back l.by) (take l.hole-index l.holes)
