use Rattle.source_tags.proofs.Common.{sym}
use Rattle.source_tags.proofs.Searches.{split_line, whole_line}
use Rattle.source_tags.proofs.line_searches.first_line.Goals as goal

pub returns-in-Some : goal.returns-in-Some
returns-in-Some c = sym (split_line c.args.text.now (c.in-Some.line, c.in-Some.behind) c.in-Some.ensures.cases)

pub returns-in-None : goal.returns-in-None
returns-in-None c = sym (whole_line c.args.text.now c.in-None.ensures.cases)
