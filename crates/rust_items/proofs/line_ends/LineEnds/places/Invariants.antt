use Rattle.std.proofs.Common.{◌≡◌, map, take}
use Rattle.rust_items.proofs.Common.{place_by}
use Rattle.rust_items.proofs.line_ends.LineEnds.places.Given as goal

abbrev pub invariant-loop-at : goal.invariant-loop-at
invariant-loop-at l = l.moved.items ≡ map (place_by l.self.len l.self.returns.items) (take l.at-index l.places)
