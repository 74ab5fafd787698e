use Rattle.std.proofs.Common.{◌≡◌, ◌-◌}
use Rattle.rust_paths.proofs.Common.{is_path_part, past_from, sees}
use Rattle.rust_cursor.specs.Elements.{most_tokens}
use Rattle.rust_paths.proofs.visibilities.pass_parts.Given as goal

abbrev pub invariant-loop-turn : goal.invariant-loop-turn
invariant-loop-turn l = past_from (sees is_path_part) (l.most - l._turn) l.cursor ≡ past_from (sees is_path_part) most_tokens l.fn.cursor
