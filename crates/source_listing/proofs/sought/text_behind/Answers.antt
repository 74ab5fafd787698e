use Rattle.source_listing.proofs.NamePaths.{stripped}
use Rattle.source_listing.proofs.sought.text_behind.Goals as goal

pub returns : goal.returns
returns c = stripped c.args.front.now c.args.text.now c.strip_prefix.result c.strip_prefix.ensures.cases
