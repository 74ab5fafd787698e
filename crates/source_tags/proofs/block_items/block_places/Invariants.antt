use Rattle.source_tags.proofs.Common.{◌≡◌, map, take}
use Rattle.source_tags.specs.BlockItems.{bare_place}
use Rattle.source_tags.proofs.block_items.block_places.Given as goal

abbrev pub invariant-loop-place : goal.invariant-loop-place
invariant-loop-place l = l.places.items ≡ map bare_place (take l.place-index l.place-items)
