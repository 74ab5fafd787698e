use Rattle.std.proofs.Common.{rules, string_bytes}
use Rattle.source_listing.specs.Outlines.{outline_text}
use Rattle.source_listing.specs.Views.{source_view}
use Rattle.itemtree_commands.specs.Answers.{look_of}
use Rattle.itemtree_commands.proofs.ListedRows.{listed_of_rows}
use Rattle.itemtree_commands.proofs.outline.Goals as goal

pub returns-clause-text : goal.returns-clause-text
returns-clause-text c =
    let o = c.args.options.now in
    let s = source_view c.args.source in
    listed_of_rows o c.args.has_members s c.in_ok-file.file (string_bytes c.in_ok-text.text) (λ x places rs. outline_text s o.edition.reserved.items (look_of o c.args.depth c.args.has_imports c.args.form c.args.is_flat) x places rs) c.in_ok-file.ensures.text c.in_ok-file.ensures.tree (search rules)
