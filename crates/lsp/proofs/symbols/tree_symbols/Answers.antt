use Rattle.std.proofs.Common.{◌++◌, ◌∙◌, None, ap, flat_map, map}
use Rattle.serde_json.specs.View.{view}
use Rattle.lsp.specs.Inner.{page_view, symbols_at}
use Rattle.lsp.proofs.ItemSymbols.{all_symbols}
use Rattle.lsp.proofs.symbols.tree_symbols.Goals as goal

pub returns : goal.returns
returns c =
    let p = page_view c.args.page in
    let u = c.args.page.tree.now in
    let a = c.is_file_enabled-is_active.result in
    let is = c.top_level_items-ids.result.now in
    c.in_ok-push_symbols.ensures.symbols
    ∙ ap (λ vs. map view vs ++ flat_map (symbols_at p c.new-places.result u None a) is) c.new-symbols.ensures.items
    ∙ ap (λ ps. flat_map (symbols_at p ps u None a) is) c.new-places.ensures
    ∙ all_symbols p c.args.places.now u a is c.top_level_items-ids.ensures.stand c.is_file_enabled-is_active.ensures
