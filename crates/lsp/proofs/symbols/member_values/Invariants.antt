use Rattle.std.proofs.Common.{◌≡◌, map, take, flat_map, Some, []}
use Rattle.serde_json.specs.View.{view}
use Rattle.source_rows.specs.ListedViews.{listed_view}
use Rattle.lsp.specs.Inner.{page_view}
use Rattle.lsp.specs.Symbols.{with_symbol, listed_symbol}
use Rattle.lsp.proofs.symbols.member_values.Given as goal

abbrev pub invariant-loop-member : goal.invariant-loop-member
invariant-loop-member l = let p = page_view l.page in
    map view l.values.items ≡ flat_map (λ m. with_symbol p (Some l.name) (listed_symbol p.text p.reserved m) []) (map listed_view (take l.member-index l.member-items))
