use Rattle.std.proofs.Common.{◌≡◌, ◌<◌, arith, length}
use Rattle.std.proofs.lemmas.Bool.Decides.{nat_tests}
use Rattle.rust_items.specs.SourceFiles.{file_view}
use Rattle.source_rows.proofs.ListedTexts.{whole_clipped}
use Rattle.source_rows.proofs.listed_files.read_listed.Goals as goal

pub returns-then-is_empty-clause-file : goal.returns-then-is_empty-clause-file
returns-then-is_empty-clause-file c =
    let own = c.in_ok-own.own in
    let none : length own.problems.items ≡ 0 = grind (arith, nat_tests, c.is_empty.ensures, c.if-is_empty.true, own.problems.ok.0) in
    whole_clipped c.args.wanted c.args.edition c.args.text.now (file_view own) c.in_ok-own.ensures.file none

pub mended_file-requires-clause-damaged : goal.mended_file-requires-clause-damaged
mended_file-requires-clause-damaged c =
    let own = c.in_ok-own.own in
    let some : 0 < length own.problems.items = grind (arith, nat_tests, c.is_empty.ensures, c.if-is_empty.false, own.problems.ok.0) in
    some
