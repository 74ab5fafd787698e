use Rattle.std.proofs.Common.{◌≡◌, map, ◌+◌, ◌-◌, ◌*◌}
use Rattle.rust_metas.proofs.Common.{meta_view, is_at_end, elements, one, reads_from, turns_from, member, meta}
use Rattle.rust_metas.proofs.meta.+metas.Given as goal

abbrev pub decreases-meta : goal.decreases-meta
decreases-meta l = 2 * l.depth

abbrev pub decreases-metas : goal.decreases-metas
decreases-metas l = 2 * l.depth + 1

abbrev pub invariant-metas-loop-turn : goal.invariant-metas-loop-turn
invariant-metas-loop-turn l = turns_from is_at_end (one (reads_from l.anchor (member (meta l.depth)))) (l.most - l._turn) (map meta_view l.metas.items) l.cursor ≡ elements (one (reads_from l.anchor (member (meta l.depth)))) l.fn.cursor
