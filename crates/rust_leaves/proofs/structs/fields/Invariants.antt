use Rattle.std.proofs.Common.{◌≡◌, map, ◌-◌}
use Rattle.rust_cursor.specs.Elements.{turns_from, one}
use Rattle.rust_leaves.proofs.Common.{header_field, are_over, fields, field_view}
use Rattle.rust_leaves.proofs.structs.fields.Given as goal

abbrev pub invariant-loop-turn : goal.invariant-loop-turn
invariant-loop-turn l = turns_from (are_over l.end) (one (header_field l.end)) (l.most - l._turn) (map field_view l.fields.items) l.cursor ≡ fields l.end l.fn.cursor
