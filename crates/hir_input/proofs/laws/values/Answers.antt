use Rattle.hir_input.specs.contracts.mod_path.ModPathHash.TheImpl.Laws.{respects_eq-law}
use Rattle.hir_input.proofs.PathEq.{path_decides}
use Rattle.hir_input.proofs.laws.values.Goals as goal

pub returns-clause-paths : goal.returns-clause-paths
returns-clause-paths c = ((path_decides, λ source copy h. h), respects_eq-law)
