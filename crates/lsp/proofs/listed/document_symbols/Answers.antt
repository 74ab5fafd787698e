use Rattle.std.proofs.Common.{◌≡◌, true, [], map, option_copied, rules, refl, ap, subst, ◌∙◌}
use Rattle.serde_json.specs.Data.{array}
use Rattle.serde_json.specs.View.{items_of, view}
use Rattle.serde_json.specs.Written.{has_float, items_have_float}
use Rattle.source_rows.specs.ListedFiles.{HasTextOf, closers_in}
use Rattle.source_rows.specs.ListedViews.{reading_view}
use Rattle.itemtree_commands.specs.Answers.{HasListed, reading_in}
use Rattle.lsp.specs.Inner.{listed_reading}
use Rattle.lsp.specs.Servers.{flat_in, page_of}
use Rattle.lsp.specs.Symbols.{tree_symbols}
use Rattle.lsp.specs.Views.{document_view}
use Rattle.lsp.proofs.ListedParts.{reading_listed}
use Rattle.lsp.proofs.NoFloats.{symbols_none}
use Rattle.lsp.proofs.listed.document_symbols.Goals as goal

pub returns-clause-symbols : goal.returns-clause-symbols
returns-clause-symbols c =
    let o = c.args.options.now in
    let d = document_view c.args.document.now in
    let x = c.in_ok-listed.listed in
    let closers = closers_in x.mended in
    let flat : option_copied c.flat_in.result ≡ flat_in c.args.client c.args.uri.now = search rules in
    let read : reading_view c.reading_of.result ≡ listed_reading o d.text x.mended = search rules in
    let text : HasTextOf d.text x.mended = subst (λ t. HasTextOf t x.mended) c.text.ensures c.in_ok-listed.ensures.text in
    let tree : HasListed o d.text closers x.source = subst (λ t. HasListed o t closers x.source) c.text.ensures c.in_ok-listed.ensures.tree in
    let listed : reading_view c.reading_of.result ≡ reading_in o true (record { path = []; text = d.text }) closers = read ∙ reading_listed o d.text x.mended text in
    let places : c.deref.result.now ≡ x.source.places.items = search rules in
    let told : map view c.in_ok-symbols.symbols.items ≡ tree_symbols (page_of o c.args.client c.args.uri.now d closers) x.source.places.items x.source.tree = c.in_ok-symbols.ensures ∙ rw (flat, listed, places) refl in
    (closers, x.source, tree, c.list_value.ensures ∙ ap (λ ds. array (items_of ds)) told)

pub returns-clause-plain : goal.returns-clause-plain
returns-clause-plain c =
    let o = c.args.options.now in
    let d = document_view c.args.document.now in
    let x = c.in_ok-listed.listed in
    let closers = closers_in x.mended in
    let flat : option_copied c.flat_in.result ≡ flat_in c.args.client c.args.uri.now = search rules in
    let read : reading_view c.reading_of.result ≡ listed_reading o d.text x.mended = search rules in
    let text : HasTextOf d.text x.mended = subst (λ t. HasTextOf t x.mended) c.text.ensures c.in_ok-listed.ensures.text in
    let listed : reading_view c.reading_of.result ≡ reading_in o true (record { path = []; text = d.text }) closers = read ∙ reading_listed o d.text x.mended text in
    let places : c.deref.result.now ≡ x.source.places.items = search rules in
    let told : map view c.in_ok-symbols.symbols.items ≡ tree_symbols (page_of o c.args.client c.args.uri.now d closers) x.source.places.items x.source.tree = c.in_ok-symbols.ensures ∙ rw (flat, listed, places) refl in
    ap has_float c.list_value.ensures ∙ ap (λ ds. items_have_float (items_of ds)) told ∙ symbols_none (page_of o c.args.client c.args.uri.now d closers) x.source.places.items x.source.tree
