use Rattle.std.proofs.Common.{ap, map, ◌∙◌}
use Rattle.source_rows.specs.ListedFiles.{closers_in}
use Rattle.source_imports.specs.Repeated.{repeated_imports}
use Rattle.source_imports.specs.ImportCfgs.{ImportChoice}
use Rattle.source_listing.specs.Uses.{file_places}
use Rattle.source_imports.specs.Views.{import_choice_view, use_cfgs_view}
use Rattle.itemtree_commands.specs.Answers.{all_places, import_choice}
use Rattle.itemtree_commands.proofs.import_lists.repeated_imports.Goals as goal

pub returns-clause-repeats : goal.returns-clause-repeats
returns-clause-repeats c =
    let o = c.args.options.now in
    let text = c.args.text.now in
    let reserved = o.edition.reserved.items in
    let file = c.in_ok-file.file in
    let has = c.in_ok-file.ensures.uses in
    let places = all_places file.listed.source in
    let forest = file.listed.source.tree.forest in
    let uses = ap (map use_cfgs_view) c.deref.ensures.value ∙ has.uses in
    let first = import_choice_view c.import_choice-choice.result in
    (closers_in file.listed.mended, file.listed.source, has.listed, c.in_ok-found.ensures ∙ (λ i. repeated_imports text reserved first (file_places (c.deref-2.ensures.value i) (c.deref-3.ensures.value i)) forest) ∙ ap (λ (choice : ImportChoice). repeated_imports text reserved choice places forest) (c.import_choice-choice.ensures ∙ ap (import_choice o) uses))
