use Rattle.std.proofs.Common.{rules, ◌++◌, ◌∷◌, [], ◌∙◌, ap, append_assoc, map, option_copied}
use Rattle.std.proofs.lemmas.List.{map-append}
use Rattle.serde_json.specs.View.{view}
use Rattle.lsp.specs.Inner.{page_view}
use Rattle.lsp.specs.Symbols.{information}
use Rattle.lsp.specs.Views.{symbol_view}
use Rattle.lsp.proofs.ItemSymbols.{told_alone}
use Rattle.lsp.proofs.symbols.push_told.Goals as goal

pub returns : goal.returns
returns c =
    let old = map view c.args.out.now.items in
    let inner = map view c.args.inner.items in
    let container = option_copied c.args.container in
    let s = symbol_view c.args.symbol in
    let uri = c.in-Some.uri.now in
    let value = c.in_ok-information_value.field-0 in
    let is_value = c.in_ok-information_value.ensures ∙ ap (λ span. information uri container span s) c.span-span.ensures in
    ap (map view) c.in_ok-append.ensures.items
    ∙ map-append view c.push-2.new.self.items c.args.inner.items
    ∙ ap (λ ds. ds ++ inner) (ap (map view) c.in_ok-push-2.ensures.items ∙ map-append view c.args.out.now.items (value ∷ []))
    ∙ append_assoc old (view value ∷ []) inner
    ∙ ap (λ ds. old ++ ds) (told_alone (page_view c.args.page) container s inner uri (view value) (search rules) is_value)
