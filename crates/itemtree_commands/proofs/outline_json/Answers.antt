use Rattle.std.proofs.Common.{◌≡◌, ◌∙◌, List, ℕ, ap, rules, string_bytes}
use Rattle.source_rows.specs.Listed.{MemberReading}
use Rattle.source_listing.specs.Objects.{json_line}
use Rattle.source_listing.specs.Views.{source_view}
use Rattle.itemtree_commands.specs.Answers.{choice}
use Rattle.source_rows.specs.ListedFiles.{closers_in}
use Rattle.itemtree_commands.specs.Inner.{reading_by}
use Rattle.itemtree_commands.proofs.ListedTrees.{same_reading}
use Rattle.itemtree_commands.proofs.outline_json.Goals as goal

pub returns-clause-text : goal.returns-clause-text
returns-clause-text c =
    let o = c.args.options.now in
    let s = source_view c.args.source in
    let file = c.in_ok-file in
    let list : MemberReading → List ℕ = λ x. json_line s x o.edition.reserved.items file.file.source.places.items (choice o c.args.depth) file.file.source.tree in
    let is : string_bytes c.in_ok-text.text ≡ list (reading_by o c.args.has_members s.text file.file.mended) = search rules in
    (closers_in file.file.mended, file.file.source, file.ensures.tree, is ∙ ap list (same_reading o c.args.has_members s file.file.mended file.ensures.text))
