use Rattle.std.proofs.Common.{ap, ◌∙◌, rules}
use Rattle.itemtree_commands.specs.Answers as spec
use Rattle.itemtree_commands.proofs.page.Goals as goal

pub returns-clause-text : goal.returns-clause-text
returns-clause-text c = (c.in_ok-file.file, search rules, c.in_ok-page-2.ensures ∙ ap (spec.if_ids c.args.has_ids) c.in_ok-page.ensures)
