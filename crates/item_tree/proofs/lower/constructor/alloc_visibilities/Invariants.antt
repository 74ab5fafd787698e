use Rattle.item_tree.proofs.Common.{MeetsUpTo}
use Rattle.item_tree.proofs.lower.constructor.alloc_visibilities.Given as goal

abbrev pub invariant-loop-visibility : goal.invariant-loop-visibility
invariant-loop-visibility l = MeetsUpTo l.fn.rows l.rows l.fn.visibilities.keys l.visibility-iterator l.ids.items
