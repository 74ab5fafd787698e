use Rattle.std.proofs.Common.{◌≡◌, map, take}
use Rattle.serde_json.specs.View.{view}
use Rattle.lsp.specs.Selection.{selection_at}
use Rattle.lsp.proofs.selection.selections.Given as goal

abbrev pub invariant-loop-place : goal.invariant-loop-place
invariant-loop-place l = let p = l.fn.page in map view l.values.items ≡ map (selection_at p.units p.text.now p.parts.now) (take l.place-index l.places)
