use Rattle.std.proofs.Common.{◌≡◌, ◌++◌, map, drop}
use Rattle.source_changes.proofs.Common.{holes_begun, part_view}
use Rattle.source_changes.proofs.tokens.push_begun.Given as goal

abbrev pub invariant-loop-part : goal.invariant-loop-part
invariant-loop-part l = l.holes.items ++ holes_begun l.place (map part_view (drop l.part-index l.parts)) ≡ l.initial.holes.items ++ holes_begun l.place (map part_view l.parts)
