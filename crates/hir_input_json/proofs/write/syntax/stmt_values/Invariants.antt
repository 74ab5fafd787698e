-- what is to be written is what was made, and behind it what is left
use Rattle.std.proofs.Common.{map}
use Rattle.hir_input_json.proofs.Writing.Common.{stmt_view, each_data, stmt_data}
use Rattle.hir_input_json.proofs.Writing.Lists.{HasMade}
use Rattle.hir_input_json.proofs.write.syntax.stmt_values.Given as goal

abbrev pub invariant-loop-stmt : goal.invariant-loop-stmt
invariant-loop-stmt l = HasMade (λ s. stmt_data l.bodies (stmt_view s)) (λ ss. each_data (stmt_data l.bodies) (map stmt_view ss)) l.stmts l.values.items l.stmt-index
