use Rattle.std.proofs.Common.{◌≡◌, ◌≤◌, take, count_by}
use Rattle.line_index.specs.Points as spec
use Rattle.line_index.proofs.bytes.ends_of_block.Given as goal

abbrev pub invariant-loop-byte : goal.invariant-loop-byte
invariant-loop-byte l = (l.count ≡ count_by (spec.begins_end l.line_ends) (take l.byte-index l.block)) × (l.count ≤ l.byte-index)
