use Rattle.std.proofs.Common.{rules}
use Rattle.serde_json.specs.View.{view}
use Rattle.source_imports.specs.Views.{repeated_import_view}
use Rattle.lsp.specs.Diagnostics.{repeat_diagnostic}
use Rattle.lsp.proofs.PushedSymbols.{one_more}
use Rattle.lsp.proofs.diagnostics.push_repeats.Goals as goal

pub loop-repeat-preserved : goal.loop-repeat-preserved
loop-repeat-preserved c =
    let l = c.loop-repeat in
    let told = repeat_diagnostic c.args.units c.args.text.now in
    one_more view told repeated_import_view c.args.values.now.items l.values.items c.push.new.self.items c.in_ok-repeat_diagnostic.field-0 c.args.repeats.now l.repeat-index c.repeat-item.result (search rules) (search rules) (search rules) l.invariant c.in_ok-push.ensures.items
