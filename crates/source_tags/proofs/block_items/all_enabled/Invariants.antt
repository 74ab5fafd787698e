use Rattle.source_tags.proofs.Common.{◌≡◌, map}
use Rattle.std.proofs.Common.{drop}
use Rattle.source_tags.specs.BlockItems.{all_enabled}
use Rattle.source_tags.specs.Inner.{holder_view}
use Rattle.source_tags.proofs.block_items.all_enabled.Given as goal

abbrev pub invariant-loop-holder : goal.invariant-loop-holder
invariant-loop-holder l = all_enabled (map holder_view (drop l.holder-index l.holders)) ≡ all_enabled (map holder_view l.holders)
