use Rattle.std.proofs.Common.{◌≡◌, ◌++◌, map, take, drop}
use Rattle.rust_edits.proofs.Common.{has_place, shifted_place, or_kept}
use Rattle.rust_edits.proofs.shift.Shift.move_use_trees.Given as goal

abbrev pub invariant-loop-start : goal.invariant-loop-start
invariant-loop-start l =
    let f = or_kept (has_place l.self) (shifted_place l.self) in take l.start-index l.starts ++ map f (drop l.start-index l.starts) ≡ map f l.fn.starts
