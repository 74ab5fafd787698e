use Rattle.std.proofs.Common.{◌≡◌, ◌≤◌, ◌+◌, ◌-◌, length, drop}
use Rattle.rust_lexer.proofs.Common.{IsBlock, gap}
use Rattle.rust_lexer.proofs.stops.stop_from.Given as goal

abbrev pub invariant-blocks-2 : goal.invariant-blocks-2
invariant-blocks-2 l = record {
  same : l.at + gap (drop l.at l.fn.z) ≡ l.fn.from + gap (drop l.fn.from l.fn.z);
  within : l.at ≤ length l.fn.z;
  block : IsBlock l.fn.z l.at l.block;
}

abbrev pub decreases-blocks-2 : goal.decreases-blocks-2
decreases-blocks-2 l = length l.fn.z - l.at
