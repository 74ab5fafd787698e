use Rattle.std.proofs.Common.{◌≡◌, ◌-◌}
use Rattle.rust_paths.proofs.Common.{comma_from, tree_behind_comma, reads}
use Rattle.rust_paths.proofs.use_trees.pass_comma.Given as goal

abbrev pub invariant-loop-turn : goal.invariant-loop-turn
invariant-loop-turn l = (reads (comma_from (l.most - l._turn)) l.cursor).1 ≡ tree_behind_comma l.fn.cursor
