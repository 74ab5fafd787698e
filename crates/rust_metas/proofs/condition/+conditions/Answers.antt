use Rattle.std.proofs.Common.{map, sym, ap, ◌∙◌, ◌-◌, is_ok}
use Rattle.rust_metas.proofs.Common.{chosen, map-append, cfg_view, is_at_end, elements, one, reads, turns_one, condition}
use Rattle.rust_metas.proofs.condition.+conditions.Goals as goal

pub conditions-loop-turn-preserved : goal.conditions-loop-turn-preserved
conditions-loop-turn-preserved t c =
    let pushed = chosen _ _ _ _ c.push.ensures.items (ap is_ok c.in_ok-push.was) in
    turns_one is_at_end (reads (condition (c.args.depth - 1))) c.most_turns-most.result c.loop-turn._turn c.last_end-past.result (map cfg_view c.loop-turn.conditions.items) (map cfg_view c.push.new.self.items)
    (cfg_view c.in_ok-condition.condition) c.loop-turn.cursor c.condition.new.cursor c.pass_beyond.new.self (elements (one (reads (condition (c.args.depth - 1)))) c.args.cursor.now)
    c.loop-turn-test.true (sym c.is_at_end.ensures ∙ c.if-is_at_end.false) c.in_ok-condition.ensures c.last_end-past.ensures c.pass_beyond.ensures
    (ap (map cfg_view) pushed ∙ map-append cfg_view c.loop-turn.conditions.items _)
    c.loop-turn.invariant
