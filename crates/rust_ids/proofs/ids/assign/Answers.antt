use Rattle.std.proofs.Common.{rules}
use Rattle.rust_ids.proofs.Steps.{level_next, left_smaller, numbered_none}
use Rattle.rust_ids.proofs.ids.assign.Goals as goal

pub loop-level-init : goal.loop-level-init
loop-level-init c = numbered_none c.args.nodes.now _ c.new-counts.result c.in_ok-ids.ensures c.new-counts.ensures.empty

pub loop-level-preserved : goal.loop-level-preserved
loop-level-preserved c = level_next c.args.nodes.now c.in-Some.depth c.next_depth-level.result _ _ c.next_depth-level.ensures c.in_ok-number_level.ensures

pub loop-level-smaller : goal.loop-level-smaller
loop-level-smaller c = left_smaller c.args.nodes.now c.in-Some.depth c.next_depth-level.result c.loop-level.level c.next_depth-level.ensures (search rules) c.in-Some.is
