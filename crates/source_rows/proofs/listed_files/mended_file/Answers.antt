use Rattle.std.proofs.Common.{◌≡◌, ◌∙◌, Some, ap, subst}
use Rattle.std.proofs.lemmas.Option.{MatchOption-at_none, MatchOption-at_some}
use Rattle.rust_items.specs.SourceFiles.{IsClippedFile, file_view}
use Rattle.source_rows.specs.Listed.{Closers}
use Rattle.source_rows.specs.ListedFiles.{closers_in, closers_of, told_file}
use Rattle.source_rows.proofs.ListedTexts.{closers_are, closers_kept, ids_told, mended_clipped, text_kept, unmended_clipped}
use Rattle.source_rows.proofs.listed_files.mended_file.Goals as goal

pub returns-clause-file : goal.returns-clause-file
returns-clause-file c =
    let text = c.args.text.now in
    let m = c.in-Some.mended in
    let listed = c.in_ok-listed.listed in
    let items = c.in_ok-read.read.places.items in
    let found = c.in_ok-mended.ensures in
    let put : Closers = record { puts = m.puts.items; items = items } in
    let closers : closers_of text items ≡ Some put = closers_are text m items (MatchOption-at_some _ _ m c.in-Some.is found.edits) (MatchOption-at_some _ _ m c.in-Some.is found.puts) in
    let kept : closers_in listed.mended ≡ Some put = closers_kept listed.mended m items c.in_ok-listed.ensures.mended c.in_ok-listed.ensures.items in
    let again = subst (λ z. IsClippedFile c.args.wanted c.args.edition z (file_view c.in_ok-read.read)) (c.deref.ensures ∙ MatchOption-at_some _ _ m c.in-Some.is found.text) c.in_ok-read.ensures.file in
    mended_clipped c.args.wanted c.args.edition text (file_view c.args.own) c.requires.read (closers_in listed.mended) put (file_view c.in_ok-read.read) (file_view listed.file) kept closers c.requires.damaged again
    (c.in_ok-listed.ensures.file ∙ ap (λ o. told_file o c.args.own.problems.items (file_view c.in_ok-read.read)) kept)

pub returns-clause-text : goal.returns-clause-text
returns-clause-text c =
    let m = c.in-Some.mended in
    let found = c.in_ok-mended.ensures in
    text_kept c.args.text.now c.in_ok-listed.listed.mended m c.in_ok-listed.ensures.mended (MatchOption-at_some _ _ m c.in-Some.is found.text) (MatchOption-at_some _ _ m c.in-Some.is found.edits).0

pub returns-clause-ids : goal.returns-clause-ids
returns-clause-ids c =
    let listed = c.in_ok-listed.listed in
    let read = file_view c.in_ok-read.read in
    let put : Closers = record { puts = c.in-Some.mended.puts.items; items = c.in_ok-read.read.places.items } in
    let kept : closers_in listed.mended ≡ Some put = closers_kept listed.mended c.in-Some.mended c.in_ok-read.read.places.items c.in_ok-listed.ensures.mended c.in_ok-listed.ensures.items in
    ids_told put c.args.own.problems.items read (file_view listed.file) c.in_ok-read.ensures.ids (c.in_ok-listed.ensures.file ∙ ap (λ o. told_file o c.args.own.problems.items read) kept)

pub returns-in_default-clause-file : goal.returns-in_default-clause-file
returns-in_default-clause-file c = unmended_clipped c.args.wanted c.args.edition c.args.text.now (file_view c.args.own) c.requires.read (MatchOption-at_none _ _ c.in_default.is c.in_ok-mended.ensures.edits)
