use Rattle.std.proofs.Common.{arith}
use Rattle.line_index.proofs.ReplacedLines.{pushed, rest_long}
use Rattle.line_index.proofs.edits.push_starts.Goals as goal

pub loop-left-preserved : goal.loop-left-preserved
loop-left-preserved c =
    let xs = c.loop-left.left.now in (
      pushed c.args.line_ends c.loop-left.at c.args.next.now c.next_to.result.now xs c.push_start.new.starts.items c.loop-left.starts.items _ c.is_line_end.result
          c.in-len1-up.len_at_least c.is_line_end.ensures c.next_to.ensures c.in_ok-push_start.ensures c.loop-left.invariant.0,
      omega (arith, rest_long xs c.in-len1-up.len_at_least, c.loop-left.invariant.1),
    )
