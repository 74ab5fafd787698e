use Rattle.std.proofs.Common.{◌≡◌, ◌++◌, length}
use Rattle.std.specs.List.{flat_map}
use Rattle.rust_mended.specs.Mended.{all_ended}
use Rattle.rust_mended.specs.Texts.{mending_edit}
use Rattle.rust_mended.proofs.ends.end_all.Given as goal

abbrev pub invariant-opened : goal.invariant-opened
invariant-opened l = l.edits.items ++ flat_map mending_edit (all_ended l.at l.opened.items) ≡ l.fn.edits.items ++ flat_map mending_edit (all_ended l.at l.fn.opened.items)

abbrev pub decreases-opened : goal.decreases-opened
decreases-opened l = length l.opened.items
