use Rattle.std.proofs.Common.{◌≡◌, drop, map}
use Rattle.serde_json.specs.View.{view}
use Rattle.lsp.specs.Clients.{value_inside}
use Rattle.lsp.proofs.client.value_inside.Given as goal

abbrev pub invariant-loop-key : goal.invariant-loop-key
invariant-loop-key l = value_inside (map (λ k. k.now) (drop l.key-index l.keys)) (view l.found) ≡ value_inside (map (λ k. k.now) l.fn.keys) (view l.fn.value)
