use Rattle.std.proofs.Common.{◌++◌, ap, flat_map, map, ◌∙◌}
use Rattle.itemtree_commands.specs.ImportTargets.{entry_if_listed}
use Rattle.itemtree_commands.specs.Inner.{pathed_view}
use Rattle.itemtree_commands.specs.ModuleLists.{pathed_modules}
use Rattle.itemtree_commands.proofs.import_entries.resolved_imports.Goals as goal

pub returns : goal.returns
returns c =
    let reserved = c.args.edition.now.reserved.items in
    let finders = c.as_mut_slice.ensures.value ∙ c.in_ok-finders.ensures in
    let modules = c.as_slice-modules.ensures.value in
    let paths = ap (map pathed_view) c.as_slice.ensures.value ∙ c.in_ok-pathed.ensures ∙ ap (pathed_modules reserved) modules in
    c.in_ok-push_imports.ensures.entries
    ∙ (λ i. c.new-out.ensures.bytes i ++ flat_map (entry_if_listed c.args.look reserved c.args.files.now (finders i) (modules i) (paths i)) c.args.imports.now)
