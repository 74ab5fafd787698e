use Rattle.std.proofs.Common.{◌≡◌, ◌-◌}
use Rattle.rust_metas.proofs.Common.{Inner, past_from, sees, is_doc, behind_docs}
use Rattle.rust_metas.proofs.attribute.pass_docs.Given as goal

abbrev pub invariant-loop-turn : goal.invariant-loop-turn
invariant-loop-turn l = past_from (sees (is_doc Inner)) (l.most - l._turn) l.cursor ≡ behind_docs l.fn.cursor
