use Rattle.std.proofs.Common.{◌≡◌, length}
use Rattle.rust_ids.proofs.numbering.blank_ids.Given as goal

abbrev pub invariant-loop-node : goal.invariant-loop-node
invariant-loop-node l = length l.ids.items ≡ l.node-index
