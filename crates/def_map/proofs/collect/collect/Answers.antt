use Rattle.def_map.specs.Views.{sources_view}
use Rattle.def_map.proofs.RowModules.{whole}
use Rattle.def_map.proofs.collect.collect.Goals as goal

pub returns-clause-whole : goal.returns-clause-whole
returns-clause-whole c = λ some. whole (sources_view c.args.sources.now) c.in_ok-parents.ensures.ordered some
