use Rattle.std.proofs.Common.{rules}
use Rattle.rust_edits.proofs.Common.{has_place, shifted_place}
use Rattle.rust_edits.proofs.Steps.{moved_all, moved_each}
use Rattle.rust_edits.proofs.shift.Shift.move_use_trees.Goals as goal

pub returns : goal.returns
returns c =
    let each = moved_each (has_place c.args.self.now) (shifted_place c.args.self.now) c.loop-start.start-index c.loop-start.starts c.args.starts.now (search rules) c.loop-start.invariant in
    record { all = moved_all (has_place c.args.self.now) (shifted_place c.args.self.now) c.loop-start.starts c.args.starts.now each; each = each }
