use Rattle.std.proofs.Common.{◌≡◌, ◌-◌}
use Rattle.rust_leaves.proofs.Common.{behind_tree, behind_others_from, behind_more_others}
use Rattle.rust_leaves.proofs.head.pass_others.Given as goal

abbrev pub invariant-loop-turn : goal.invariant-loop-turn
invariant-loop-turn l = behind_others_from (l.most - l._turn) l.cursor ≡ behind_more_others (behind_tree l.fn.cursor)
