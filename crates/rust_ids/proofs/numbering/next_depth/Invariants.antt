use Rattle.rust_ids.proofs.Common.{IsNextBefore}
use Rattle.rust_ids.proofs.numbering.next_depth.Given as goal

abbrev pub invariant-loop-node : goal.invariant-loop-node
invariant-loop-node l = IsNextBefore l.nodes l.node-index l.depth l.next
