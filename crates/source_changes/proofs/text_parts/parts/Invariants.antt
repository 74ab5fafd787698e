use Rattle.std.proofs.Common.{◌≡◌, ◌++◌, map, drop}
use Rattle.source_changes.specs.Parts.{item_parts, item_parts_from}
use Rattle.source_changes.specs.Views.{outer_view, part_view}
use Rattle.source_changes.proofs.text_parts.parts.Given as goal

abbrev pub invariant-loop-item : goal.invariant-loop-item
invariant-loop-item l = map part_view l.parts.items ++ item_parts_from l.edition l.text (map outer_view l.around.items) (drop l.item-index l.items) ≡ item_parts l.edition l.text l.items
