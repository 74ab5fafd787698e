use Rattle.std.proofs.Common.{◌≡◌, ◌+◌, ◌++◌, ◌*◌, map, take, sum_by, flat_map, option_copied}
use Rattle.serde_json.specs.View.{view}
use Rattle.item_tree.specs.Walk.{count_at}
use Rattle.lsp.specs.Inner.{page_view, symbols_at}
use Rattle.lsp.proofs.symbols.+symbols.Given as goal

abbrev pub decreases-push_symbols : goal.decreases-push_symbols
decreases-push_symbols l = 2 * sum_by (count_at l.page.tree.now) l.ids.now + 1

abbrev pub decreases-push_symbol : goal.decreases-push_symbol
decreases-push_symbol l = 2 * count_at l.page.tree.now l.id

abbrev pub invariant-push_symbols-loop-id : goal.invariant-push_symbols-loop-id
invariant-push_symbols-loop-id l = record {
  symbols : map view l.out.items ≡ map view l.fn.out.items ++ flat_map (symbols_at (page_view l.page) l.fn.places l.page.tree.now (option_copied l.container) l.is_active) (take l.id-index l.ids);
  same : l.places ≡ l.fn.places;
}
