use Rattle.std.proofs.Common.{◌≡◌, ◌≤◌, ◌*◌, take}
use Rattle.std.specs.List.{sum_by}
use Rattle.line_index.specs.Points as spec
use Rattle.line_index.proofs.bytes.units_of_block.Given as goal

abbrev pub invariant-loop-byte : goal.invariant-loop-byte
invariant-loop-byte l = (l.count ≡ sum_by (spec.column_units l.style) (take l.byte-index l.block)) × (l.count ≤ 2 * l.byte-index)
