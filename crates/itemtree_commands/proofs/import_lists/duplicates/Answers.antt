use Rattle.std.proofs.Common.{ap, map, ◌∙◌}
use Rattle.source_imports.specs.Repeated.{repeat_lines}
use Rattle.source_imports.specs.Views.{repeated_import_view}
use Rattle.itemtree_commands.proofs.import_lists.duplicates.Goals as goal

pub returns-clause-text : goal.returns-clause-text
returns-clause-text c =
    let lines = repeat_lines c.args.is_colored c.args.source.path.now in
    (map repeated_import_view c.in_ok-repeats.repeats.items, c.in_ok-repeats.ensures.repeats, c.in_ok-text.ensures ∙ ap (λ xs. lines (map repeated_import_view xs)) c.deref.ensures.value)
