use Rattle.std.proofs.Common.{◌≡◌, map, ◌-◌}
use Rattle.rust_metas.proofs.Common.{meta_view, one, sees, turns_from, is_behind, attribute, attributes, kept_by}
use Rattle.rust_metas.proofs.attribute.attributes.Given as goal

abbrev pub invariant-loop-turn : goal.invariant-loop-turn
invariant-loop-turn l =
    turns_from (sees (is_behind l.style)) (kept_by l.wanted (one (attribute l.style))) (l.most - l._turn) (map meta_view l.metas.items) l.cursor ≡ kept_by l.wanted (attributes l.style) l.fn.cursor
