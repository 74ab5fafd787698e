use Rattle.std.proofs.Common.{None, rules, string_bytes}
use Rattle.source_tags.specs.Tags as listing
use Rattle.source_listing.specs.Views.{source_view}
use Rattle.itemtree_commands.specs.Answers.{cfgs_if, choice}
use Rattle.itemtree_commands.proofs.ListedRows.{listed_of_rows}
use Rattle.itemtree_commands.proofs.tags.Goals as goal

pub returns-clause-text : goal.returns-clause-text
returns-clause-text c =
    let o = c.args.options.now in
    let s = source_view c.args.source in
    listed_of_rows o c.args.has_members s c.in_ok-file.file (string_bytes c.in_ok-text.text) (λ x places rs. listing.tags s c.args.form (record { reading = x; choice = choice o None; bodies = cfgs_if o c.args.has_bodies }) places.items rs) c.in_ok-file.ensures.text c.in_ok-file.ensures.tree (search rules)
