-- a list of fewer or of more than two
use Rattle.std.proofs.Common.{◌≡◌, ◌<◌, [], length, rules, sym, ap, ◌∙◌}
use Rattle.serde_json.specs.View.{view, items_view}
use Rattle.source_session.proofs.Common.{array_items, right, wrong, range_in}
use Rattle.hir_input_json.specs.Reading.{◌>>=◌}
use Rattle.source_session.proofs.Ranges.{range_of_fewer, range_of_more}
use Rattle.source_session.proofs.edit.range_of.Goals as goal
use Rattle.source_session.proofs.edit.range_of.Goals.{in_default-as_slice-via-then-as_slice-lt2, in_default-as_slice-via-else-as_slice-lt2+else-this-lt3}

pub returns-in_default-as_slice : goal.returns-in_default-as_slice
returns-in_default-as_slice c = λ told.
    let vs = c.as_slice.result.now in
    let read : array_items (view c.args.value.now) ≡ right (items_view vs) = search rules in
    let none : range_in (items_view vs) ≡ wrong [] = elim c.in_default-as_slice.branch as (λ _. range_in (items_view vs) ≡ wrong []) [
      | in_default-as_slice-via-then-as_slice-lt2 w ↦ let few : length vs < 2 = search rules in range_of_fewer vs few
      | in_default-as_slice-via-else-as_slice-lt2+else-this-lt3 w ↦ let many : 2 < length vs = search rules in range_of_more vs many
    ] in
    ap (λ r. ◌>>=◌ r range_in) read ∙ none ∙ ap wrong (sym c.here-in_default-as_slice.ensures.1)
