use Rattle.std.proofs.Common.{◌≡◌, ◌∙◌, ℕ, List, ap, sym}
use Rattle.serde_json.specs.Data.{Data}
use Rattle.line_index.specs.declared.Units.{Units}
use Rattle.lsp.specs.Parts.{range_data}
use Rattle.lsp.specs.Selection.{Chain, whole_chain, whole_range, with_parts}
use Rattle.lsp.proofs.selection.selection_at.Goals as goal

abbrev whole_with : List ℕ → Data → Chain
whole_with text value = record { range = whole_range text; value = value }

whole_is : (units : Units) (text other : List ℕ) (value : Data) → other ≡ text → value ≡ range_data units text (whole_range other) → whole_with other value ≡ whole_chain units text
whole_is units text other value e is = ap (whole_with other) is ∙ ap (λ t. whole_with t (range_data units text (whole_range t))) e

pub loop-part-init : goal.loop-part-init
loop-part-init c =
    let p = c.args.page in ap (with_parts p.units p.text.now c.byte-at.result p.parts.now) (sym (whole_is p.units p.text.now c.text.result.now _ c.text.ensures c.in_ok-value.ensures))
