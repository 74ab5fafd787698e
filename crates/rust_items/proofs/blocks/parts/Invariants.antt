use Rattle.std.proofs.Common.{◌≡◌, ◌-◌}
use Rattle.rust_items.proofs.Common.{log_view, parts_from, parts, body_view}
use Rattle.rust_items.proofs.blocks.parts.Given as goal

abbrev pub invariant-loop-turn : goal.invariant-loop-turn
invariant-loop-turn l =
    parts_from l.is_top (l.most - l._turn) (body_view l.body) (log_view l.log) l.cursor ≡ parts l.is_top (log_view l.fn.log) l.fn.cursor
