use Rattle.std.proofs.Common.{rules}
use Rattle.rust_edits.proofs.Common.{has_item, shifted_item}
use Rattle.rust_edits.proofs.Steps.{moved_all, moved_each}
use Rattle.rust_edits.proofs.shift.Shift.move_items.Goals as goal

pub returns : goal.returns
returns c =
    let each = moved_each (has_item c.args.self.now) (shifted_item c.args.self.now) c.loop-item.item-index c.loop-item.items c.args.items.now (search rules) c.loop-item.invariant in
    record { all = moved_all (has_item c.args.self.now) (shifted_item c.args.self.now) c.loop-item.items c.args.items.now each; each = each }
