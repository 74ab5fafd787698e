-- the reading is what was read, and then the reading of what is left
use Rattle.hir_input_json.proofs.Common.{atom_view, atom}
use Rattle.hir_input_json.proofs.Lists.{HasRead}
use Rattle.hir_input_json.proofs.atom.atoms_of.Given as goal

abbrev pub invariant-loop-item : goal.invariant-loop-item
invariant-loop-item l = HasRead atom_view atom l.fn.items.items l.done.items l.item-iterator.rest.items
