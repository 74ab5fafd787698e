-- the reading is what was read, and then the reading of what is left
use Rattle.hir_input_json.proofs.Common.{stmt_view, stmt}
use Rattle.hir_input_json.proofs.Lists.{HasRead}
use Rattle.hir_input_json.proofs.stmt.stmts_of.Given as goal

abbrev pub invariant-loop-item : goal.invariant-loop-item
invariant-loop-item l = HasRead stmt_view stmt l.fn.values.items l.done.items l.item-iterator.rest.items
