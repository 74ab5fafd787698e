use Rattle.item_tree.specs.contracts.visibility.RawVisibilityHash.TheImpl.Laws.{respects_eq-law}
use Rattle.item_tree.proofs.VisibilityEq.{raw_decides}
use Rattle.item_tree.proofs.laws.items.Goals as goal

pub returns-clause-visibilities : goal.returns-clause-visibilities
returns-clause-visibilities c = ((raw_decides, λ source copy h. h), respects_eq-law)
