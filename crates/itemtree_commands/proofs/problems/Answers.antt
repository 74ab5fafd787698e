use Rattle.std.proofs.Common.{rules}
use Rattle.rust_items.specs.SourceFiles.{file_view}
use Rattle.itemtree_commands.proofs.Checks.{same_problems}
use Rattle.itemtree_commands.proofs.problems.Goals as goal

pub returns-clause-problems : goal.returns-clause-problems
returns-clause-problems c =
    let read = c.in_ok-file.ensures.file in
    let same = same_problems c.args.options.now.edition.year c.args.text.now (file_view c.in_ok-file.file) read in
    (read.read, read.is_read, search rules)
