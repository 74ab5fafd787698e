-- a list of fewer or of more than two
use Rattle.std.proofs.Common.{◌≡◌, ◌<◌, [], length, rules, sym, ap, ◌∙◌}
use Rattle.serde_json.specs.View.{view, items_view}
use Rattle.hir_input_json.proofs.Common.{span_in, array_items, right, wrong}
use Rattle.hir_input_json.specs.Reading.{◌>>=◌}
use Rattle.hir_input_json.proofs.Spans.{span_of_fewer, span_of_more}
use Rattle.hir_input_json.proofs.literal.span_of.Goals as goal
use Rattle.hir_input_json.proofs.literal.span_of.Goals.{in_default-as_slice-via-then-as_slice-lt2, in_default-as_slice-via-else-as_slice-lt2+else-this-lt3}

pub returns-in_default-as_slice : goal.returns-in_default-as_slice
returns-in_default-as_slice c = λ told.
    let vs = c.as_slice.result.now in
    let read : array_items (view c.args.value.now) ≡ right (items_view vs) = search rules in
    let none : span_in c.args.ctxt (items_view vs) ≡ wrong [] = elim c.in_default-as_slice.branch as (λ _. span_in c.args.ctxt (items_view vs) ≡ wrong []) [
      | in_default-as_slice-via-then-as_slice-lt2 w ↦ let few : length vs < 2 = search rules in span_of_fewer c.args.ctxt vs few
      | in_default-as_slice-via-else-as_slice-lt2+else-this-lt3 w ↦ let many : 2 < length vs = search rules in span_of_more c.args.ctxt vs many
    ] in
    ap (λ r. ◌>>=◌ r (span_in c.args.ctxt)) read ∙ none ∙ ap wrong (sym c.here-in_default-as_slice.ensures.1)
