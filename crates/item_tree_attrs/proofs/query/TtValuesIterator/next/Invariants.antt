use Rattle.std.proofs.Common.{◌≡◌, length, filter_map}
use Rattle.hir_input.specs.Attr.{token_tree_of}
use Rattle.item_tree_attrs.proofs.query.TtValuesIterator.next.Given as goal

abbrev pub invariant-loop-attr : goal.invariant-loop-attr
invariant-loop-attr l = filter_map token_tree_of l.self-inside.attrs ≡ filter_map token_tree_of l.initial.self-inside.attrs

abbrev pub decreases-loop-attr : goal.decreases-loop-attr
decreases-loop-attr l = length l.self-inside.attrs
