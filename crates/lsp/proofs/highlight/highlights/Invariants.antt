use Rattle.std.proofs.Common.{◌≡◌, flat_map, map, take}
use Rattle.serde_json.specs.View.{view}
use Rattle.lsp.specs.Highlight.{highlights_at}
use Rattle.lsp.proofs.highlight.highlights.Given as goal

abbrev pub invariant-loop-place : goal.invariant-loop-place
invariant-loop-place l = let p = l.fn.page in map view l.values.items ≡ flat_map (highlights_at p.units p.text.now p.parts.now) (take l.place-index l.places)
