use Rattle.std.proofs.Common.{◌∙◌, List, ap}
use Rattle.serde_json.specs.Data.{Data, array}
use Rattle.serde_json.specs.View.{items_of}
use Rattle.serde_json.specs.Written.{has_float}
use Rattle.serde_json.proofs.Views.{view-Array}
use Rattle.lsp.proofs.PlainRanges.{plain_ranges}
use Rattle.lsp.proofs.ranges.ranges.Goals as goal

pub returns-clause-plain : goal.returns-clause-plain
returns-clause-plain c =
    ap has_float (view-Array c.in_ok-values.values)
    ∙ ap (λ (ds : List Data). has_float (array (items_of ds))) c.in_ok-values.ensures
    ∙ plain_ranges c.args.kind c.args.units c.in_ok-document.document.now.text c.deref.result.now c.deref-2.result.now
