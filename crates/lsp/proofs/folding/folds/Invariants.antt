use Rattle.std.proofs.Common.{◌≡◌, flat_map, map, take}
use Rattle.serde_json.specs.View.{view}
use Rattle.lsp.specs.Folding.{fold_data}
use Rattle.lsp.proofs.folding.folds.Given as goal

abbrev pub invariant-loop-part : goal.invariant-loop-part
invariant-loop-part l = map view l.values.items ≡ flat_map (fold_data l.fn.page.text.now) (take l.part-index l.part-items)
