use Rattle.std.proofs.Common.{◌≡◌, ◌++◌, length}
use Rattle.std.specs.List.{flat_map}
use Rattle.rust_mended.specs.Steps.{close_far_step}
use Rattle.rust_mended.specs.Texts.{mending_edit}
use Rattle.rust_mended.proofs.ends.close_far.Given as goal

abbrev pub invariant-opened : goal.invariant-opened
invariant-opened l = record {
  edits : l.edits.items ++ flat_map mending_edit (close_far_step l.mark l.opened.items).0 ≡ l.fn.edits.items ++ flat_map mending_edit (close_far_step l.mark l.fn.opened.items).0;
  open_then : (close_far_step l.mark l.opened.items).1 ≡ (close_far_step l.mark l.fn.opened.items).1;
}

abbrev pub decreases-opened : goal.decreases-opened
decreases-opened l = length l.opened.items
