use Rattle.std.proofs.Common.{◌≡◌, map, take}
use Rattle.source_changes.proofs.Common.{bodies, part_view}
use Rattle.source_changes.proofs.tokens.bodies.Given as goal

abbrev pub invariant-loop-part : goal.invariant-loop-part
invariant-loop-part l = l.holes.items ≡ bodies (map part_view (take l.part-index l.parts))
