use Rattle.std.proofs.Common.{◌≡◌, map, string_bytes, rules, ap, ◌∙◌}
use Rattle.serde_json.specs.View.{view}
use Rattle.serde_json.specs.Written.{compact_text, has_float}
use Rattle.source_imports.specs.Views.{repeated_import_view}
use Rattle.lsp.specs.Diagnostics.{diagnostics, notice}
use Rattle.lsp.specs.Views.{document_view}
use Rattle.lsp.proofs.NoFloats.{diagnostics_none, notice_none}
use Rattle.lsp.proofs.diagnostics.notice_text.Goals as goal

pub plain_text-requires : goal.plain_text-requires
plain_text-requires c =
    let d = document_view c.args.document.now in
    let ps = c.in_ok-problems.problems.items in
    let rs = map repeated_import_view c.in_ok-repeats.repeats.items in
    let value : view c.in_ok-value.value ≡ notice c.args.uri.now d.version (map view c.push_repeats.new.values.items) = search rules in
    let told : map view c.push_repeats.new.values.items ≡ diagnostics c.args.units d.text ps rs = search rules in
    ap has_float (value ∙ ap (notice c.args.uri.now d.version) told) ∙ notice_none c.args.uri.now d.version (diagnostics c.args.units d.text ps rs) (diagnostics_none c.args.units d.text ps rs)

pub returns : goal.returns
returns c =
    let d = document_view c.args.document.now in
    let ps = c.in_ok-problems.problems.items in
    let rs = map repeated_import_view c.in_ok-repeats.repeats.items in
    let value : view c.in_ok-value.value ≡ notice c.args.uri.now d.version (map view c.push_repeats.new.values.items) = search rules in
    let told : map view c.push_repeats.new.values.items ≡ diagnostics c.args.units d.text ps rs = search rules in
    let text : string_bytes c.in_ok-text.text ≡ compact_text (view c.in_ok-value.value) = search rules in
    (ps, c.in_ok-problems.ensures, rs, c.in_ok-repeats.ensures, text ∙ ap compact_text (value ∙ ap (notice c.args.uri.now d.version) told))
