use Rattle.std.proofs.Common.{◌≡◌, map, take}
use Rattle.source_changes.specs.Parts.{still_open}
use Rattle.source_changes.specs.Views.{outer_view}
use Rattle.source_changes.proofs.text_parts.still_open.Given as goal

abbrev pub invariant-loop-module : goal.invariant-loop-module
invariant-loop-module l = map outer_view l.left.items ≡ still_open l.place (map outer_view (take l.module-index l.around))
