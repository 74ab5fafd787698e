use Rattle.std.proofs.Common.{map, sym, ap, ◌∙◌, is_ok}
use Rattle.rust_metas.proofs.Common.{chosen, map-append, meta_view, is_at_end, elements, one, reads_from, turns_one, member, meta, tree_behind_comma}
use Rattle.rust_metas.proofs.meta.+metas.Goals as goal

pub metas-loop-turn-preserved : goal.metas-loop-turn-preserved
metas-loop-turn-preserved t c =
    let pushed = chosen _ _ _ _ c.push.ensures.items (ap is_ok c.in_ok-push.was) in
    turns_one is_at_end (reads_from c.args.anchor (member (meta c.args.depth))) c.most_turns-most.result c.loop-turn._turn c.last_end-past.result (map meta_view c.loop-turn.metas.items) (map meta_view c.push.new.self.items)
    (meta_view c.in_ok-meta.meta) c.loop-turn.cursor c.pass_comma.new.cursor c.pass_beyond.new.self (elements (one (reads_from c.args.anchor (member (meta c.args.depth)))) c.args.cursor.now)
    c.loop-turn-test.true (sym c.is_at_end.ensures ∙ c.if-is_at_end.false) (ap (λ q. (q.0, tree_behind_comma q.1)) c.in_ok-meta.ensures ∙ ap (λ l. (meta_view c.in_ok-meta.meta, l)) (sym c.pass_comma.ensures)) c.last_end-past.ensures c.pass_beyond.ensures
    (ap (map meta_view) pushed ∙ map-append meta_view c.loop-turn.metas.items _)
    c.loop-turn.invariant
