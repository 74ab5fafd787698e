use Rattle.std.proofs.Common.{◌≡◌, false, replicate}
use Rattle.globs.proofs.last_row.Given as goal

abbrev pub invariant-loop-c : goal.invariant-loop-c
invariant-loop-c l = l.row.items ≡ replicate l._c-index false
