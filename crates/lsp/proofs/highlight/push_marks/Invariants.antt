use Rattle.std.proofs.Common.{◌≡◌, ◌++◌, flat_map, map, take}
use Rattle.serde_json.specs.View.{view}
use Rattle.lsp.specs.Highlight.{mark_data}
use Rattle.lsp.proofs.highlight.push_marks.Given as goal

abbrev pub invariant-loop-mark : goal.invariant-loop-mark
invariant-loop-mark l = let p = l.fn.page in map view l.values.items ≡ map view l.initial.values.items ++ flat_map (mark_data p.units p.text.now) (take l.mark-index l.marks)
