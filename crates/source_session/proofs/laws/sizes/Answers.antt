use Rattle.source_session.proofs.Sizes.{refused_sizes}
use Rattle.source_session.proofs.laws.sizes.Goals as goal

pub returns-clause-refused : goal.returns-clause-refused
returns-clause-refused c = refused_sizes
