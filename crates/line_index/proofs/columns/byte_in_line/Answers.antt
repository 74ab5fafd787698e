use Rattle.std.proofs.Common.{ap, arith, length, length-drop}
use Rattle.line_index.specs.Points.{bytes_before}
use Rattle.line_index.proofs.columns.byte_in_line.Goals as goal

pub loop-behind-smaller : goal.loop-behind-smaller
loop-behind-smaller c =
    let left = ap length c.bytes_behind-left.ensures in
    let less = length-drop 96 c.loop-behind.left.now in
    omega (arith, left, less, c.in-Some.ensures.long)

pub loop-behind-preserved : goal.loop-behind-preserved
loop-behind-preserved c =
    let left = ap length c.bytes_behind-left.ensures in
    let less = length-drop 96 c.loop-behind.left.now in
    let bytes = ap (λ z. bytes_before c.args.style 0 c.in-Some.behind z) c.bytes_behind-left.ensures in (
      omega (arith, bytes, c.in-Some.ensures.left, c.loop-behind.invariant.0),
      omega (arith, left, less, c.in-Some.ensures.long, c.loop-behind.invariant.1),
    )
