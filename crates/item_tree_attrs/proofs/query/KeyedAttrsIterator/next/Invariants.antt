use Rattle.std.proofs.Common.{◌≡◌, length, filter}
use Rattle.item_tree_attrs.specs.Key.{has_key}
use Rattle.item_tree_attrs.proofs.query.KeyedAttrsIterator.next.Given as goal

abbrev pub invariant-loop-attr : goal.invariant-loop-attr
invariant-loop-attr l =
    (l.self-inside.key ≡ l.initial.self-inside.key) × (filter (has_key l.self-inside.key.now) l.self-inside.attrs.now ≡ filter (has_key l.initial.self-inside.key.now) l.initial.self-inside.attrs.now)

abbrev pub decreases-loop-attr : goal.decreases-loop-attr
decreases-loop-attr l = length l.self-inside.attrs.now
