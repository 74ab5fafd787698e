use Rattle.source_tags.proofs.Common.{◌≡◌, ◌++◌, map}
use Rattle.std.proofs.Common.{drop}
use Rattle.source_tags.specs.BlockItems.{modules_of}
use Rattle.source_tags.specs.Inner.{holder_view}
use Rattle.source_tags.proofs.block_items.module_names.Given as goal

abbrev pub invariant-loop-holder : goal.invariant-loop-holder
invariant-loop-holder l = map (λ n. n.now) l.names.items ++ modules_of (map holder_view (drop l.holder-index l.holders)) ≡ modules_of (map holder_view l.holders)
