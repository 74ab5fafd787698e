use Rattle.std.proofs.Common.{◌≡◌, ◌++◌, ◌∙◌, OnOk, Some, ap, flat_map, map, option_copied, subst, sym}
use Rattle.serde_json.specs.View.{view}
use Rattle.lsp.specs.Inner.{page_view, symbols_at}
use Rattle.source_listing.specs.Views.{shown_item_view}
use Rattle.lsp.specs.Symbols.{member_symbols, with_symbol}
use Rattle.lsp.specs.Views.{symbol_view}
use Rattle.lsp.proofs.ItemSymbols.{item_symbols}
use Rattle.lsp.proofs.symbols.+symbols.Goals as goal

pub push_symbol-returns-clause-symbols : goal.push_symbol-returns-clause-symbols
push_symbol-returns-clause-symbols t c =
    let p = page_view c.args.page in
    let places = c.args.places.now in
    let u = c.args.page.tree.now in
    let container = option_copied c.args.container in
    let y = shown_item_view c.item_of-item.result in
    let place = c.in-Some-find.place in
    let s = symbol_view c.in_ok-symbol.symbol in
    let is = c.children-ids.result.now in
    let members = map view c.in_ok-inner.inner.items in
    let are_members = c.in_ok-inner.ensures ∙ ap (λ n. member_symbols p n y.is_active place) c.deref.ensures in
    let are_inner = c.in_ok-push_symbols.ensures.symbols
    ∙ ap (λ ps. members ++ flat_map (symbols_at p ps u (Some c.as_str.result.now) y.is_active) is) c.find.ensures.same
    ∙ ap (λ n. members ++ flat_map (symbols_at p places u (Some n) y.is_active) is) c.as_str.ensures.value
    ∙ ap (λ ms. ms ++ flat_map (symbols_at p places u (Some s.name) y.is_active) is) are_members in
    let is_told = item_symbols p places u container c.args.is_active c.args.id c.in-Some.kind is y place s c.item_of-item.ensures c.children-ids.ensures.stand (sym c.in-Some.ensures) (sym c.in-Some-find.ensures.value) c.in_ok-symbol.ensures in
    subst (λ ds. OnOk c.push_told.result (map view c.push_told.new.out.items ≡ map view c.args.out.now.items ++ ds)) (ap (λ ds. with_symbol p container s ds) are_inner ∙ sym is_told) c.push_told.ensures
