use Rattle.module_tree.proofs.Growing.{found_stays, ends_once_known}
use Rattle.module_tree.proofs.laws.known_more.Goals as goal

pub returns-clause-stays : goal.returns-clause-stays
returns-clause-stays c = found_stays

pub returns-clause-ends : goal.returns-clause-ends
returns-clause-ends c = ends_once_known
