-- the fields that are left say a value exactly if all do
use Rattle.std.proofs.Common.{◌↔◌, ℕ, List, length, map}
use Rattle.httparse.specs.Borrowed.{header_parts}
use Rattle.message_stream.specs.Headers.{IsLengthValue}
use Rattle.message_stream.proofs.sections.length_in.Given as goal

abbrev pub invariant-loop-left : goal.invariant-loop-left
invariant-loop-left l = (value : List ℕ) → IsLengthValue (map header_parts l.left) value ↔ IsLengthValue (map header_parts l.initial.left) value

abbrev pub decreases-loop-left : goal.decreases-loop-left
decreases-loop-left l = length l.left
