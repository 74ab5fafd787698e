use Rattle.std.proofs.Common.{◌≡◌, drop}
use Rattle.serde_json.specs.View.{items_view}
use Rattle.lsp.specs.Clients.{has_text}
use Rattle.lsp.proofs.client.has_text.Given as goal

abbrev pub invariant-loop-item : goal.invariant-loop-item
invariant-loop-item l = has_text l.text (items_view l.fn.items) ≡ has_text l.text (items_view (drop l.item-index l.items))
