use Rattle.module_tree.proofs.Wanting.{wants_unknown}
use Rattle.module_tree.proofs.laws.wanted_is_unknown.Goals as goal

pub returns : goal.returns
returns c = wants_unknown
