use Rattle.std.proofs.Common.{◌≡◌, true, map, inl, rules, subst, sym}
use Rattle.source_imports.specs.Views.{repeated_import_view}
use Rattle.itemtree_commands.specs.Answers.{AreRepeats}
use Rattle.lsp.specs.Diagnostics.{AreRepeatsTold}
use Rattle.lsp.proofs.diagnostics.repeats_of.Goals as goal

pub returns-in-Ok : goal.returns-in-Ok
returns-in-Ok c =
    let o = c.args.options.now in
    let d = c.args.document.now in
    let rs = map repeated_import_view c.in-Ok.found.items in
    let is : d.is_rust ≡ true = search rules in
    let told : AreRepeatsTold o true d.text rs = inl (subst (λ text. AreRepeats o text rs) c.text.ensures c.in-Ok.ensures.repeats) in
    subst (λ b. AreRepeatsTold o b d.text rs) (sym is) told
