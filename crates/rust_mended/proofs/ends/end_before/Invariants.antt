use Rattle.std.proofs.Common.{◌≡◌, ◌++◌, length}
use Rattle.std.specs.List.{flat_map}
use Rattle.rust_mended.specs.Steps.{end_before_step}
use Rattle.rust_mended.specs.Texts.{mending_edit}
use Rattle.rust_mended.proofs.ends.end_before.Given as goal

abbrev pub invariant-opened : goal.invariant-opened
invariant-opened l = record {
  edits : l.edits.items ++ flat_map mending_edit (end_before_step l.mark l.opened.items).0 ≡ l.fn.edits.items ++ flat_map mending_edit (end_before_step l.mark l.fn.opened.items).0;
  open_then : (end_before_step l.mark l.opened.items).1 ≡ (end_before_step l.mark l.fn.opened.items).1;
}

abbrev pub decreases-opened : goal.decreases-opened
decreases-opened l = length l.opened.items
