-- what is written is read again
use Rattle.serde_json.specs.View.{view}
use Rattle.hir_input_json.proofs.Writing.Common.{syntax_view}
use Rattle.hir_input_json.proofs.Writing.SyntaxLaws.{read_again}
use Rattle.hir_input_json.proofs.write.syntax.syntax_value.Goals as goal

pub returns-clause-reads : goal.returns-clause-reads
returns-clause-reads c = read_again c.args.bodies (syntax_view c.args.syntax.now) (view c.in_ok-value.value) c.in_ok-value.ensures
