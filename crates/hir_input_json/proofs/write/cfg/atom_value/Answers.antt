-- what is written is read again
use Rattle.serde_json.specs.View.{view}
use Rattle.hir_input_json.proofs.Writing.Common.{atom_view}
use Rattle.hir_input_json.proofs.Writing.CfgLaws.{atom_again}
use Rattle.hir_input_json.proofs.write.cfg.atom_value.Goals as goal

pub returns-clause-reads : goal.returns-clause-reads
returns-clause-reads c = atom_again (atom_view c.args.atom.now) (view c.in_ok-value.value) c.in_ok-value.ensures
