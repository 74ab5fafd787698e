use Rattle.std.proofs.Common.{◌≡◌, flat_map, take}
use Rattle.source_rows.specs.ListedViews.{reading_view}
use Rattle.lsp.specs.Parts.{parts_at}
use Rattle.lsp.proofs.parts.parts_of.Given as goal

abbrev pub invariant-loop-place : goal.invariant-loop-place
invariant-loop-place l = l.parts.items ≡ flat_map (parts_at l.text (reading_view l.fn.reading)) (take l.place-index l.places)
