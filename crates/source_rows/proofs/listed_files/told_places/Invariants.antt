use Rattle.std.proofs.Common.{◌≡◌, Some, map, take}
use Rattle.source_rows.specs.Listed.{told_item}
use Rattle.source_rows.specs.ListedViews.{closers_view}
use Rattle.source_rows.proofs.listed_files.told_places.Given as goal

abbrev pub invariant-loop-place : goal.invariant-loop-place
invariant-loop-place l = l.told.items ≡ map (told_item (Some (closers_view l.mended))) (take l.place-index l.mended.items.items)
