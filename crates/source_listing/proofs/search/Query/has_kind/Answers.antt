use Rattle.std.proofs.Common.{◌∙◌}
use Rattle.source_listing.proofs.PushedTexts.{kinds_told}
use Rattle.source_listing.proofs.search.Query.has_kind.Goals as goal

pub returns : goal.returns
returns c = c.is_one_of.ensures ∙ kinds_told c.args.word.now c.args.self.kinds.now
