use Rattle.std.proofs.Common.{◌≡◌, ◌-◌}
use Rattle.rust_leaves.proofs.Common.{modifiers_from, modifiers}
use Rattle.rust_cursor.specs.Grammar.{reads}
use Rattle.rust_leaves.proofs.modifiers.pass_modifiers.Given as goal

abbrev pub invariant-loop-turn : goal.invariant-loop-turn
invariant-loop-turn l = (reads (modifiers_from (l.most - l._turn)) l.cursor).1 ≡ (reads modifiers l.fn.cursor).1
