use Rattle.std.proofs.Common.{◌≡◌, filter_map}
use Rattle.hir_input.specs.Attr.{string_with_span_of}
use Rattle.item_tree_attrs.specs.{Collected.first, Query.asked_attrs}
use Rattle.item_tree_attrs.proofs.query.AttrQuery.string_value_with_span.Given as goal

abbrev pub invariant-loop-attr : goal.invariant-loop-attr
invariant-loop-attr l =
    (goal.iterator-loop-attr).can_next l.attr-iterator ×
    (goal.iterator-loop-attr).is_finite l.attr-iterator ×
    (first (filter_map string_with_span_of l.attr-iterator) ≡ first (filter_map string_with_span_of (asked_attrs l.self)))
