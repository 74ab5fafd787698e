-- the loop as far as it has come
use Rattle.std.proofs.Common.{decimal}
use Rattle.hir_input_json.proofs.Common.{atom_view, atom}
use Rattle.hir_input_json.proofs.Lists.{read_next}
use Rattle.hir_input_json.proofs.atom.atoms_of.Goals as goal

pub loop-item-preserved : goal.loop-item-preserved
loop-item-preserved c =
    read_next atom_view atom _ _ _ _ _ _ _ (decimal c.len-place.result) _ c.loop-item.invariant c.in-Some.ensures.steps.0 c.atom_of.ensures c.in_ok-read.ensures c.in_ok-push.ensures.items
