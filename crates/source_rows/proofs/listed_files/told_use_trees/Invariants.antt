use Rattle.std.proofs.Common.{◌≡◌, Some, map, take}
use Rattle.source_rows.specs.Listed.{told_place}
use Rattle.source_rows.specs.ListedViews.{closers_view}
use Rattle.source_rows.proofs.listed_files.told_use_trees.Given as goal

abbrev pub invariant-loop-at : goal.invariant-loop-at
invariant-loop-at l = l.told.items ≡ map (told_place (Some (closers_view l.mended))) (take l.at-index l.use_trees)
