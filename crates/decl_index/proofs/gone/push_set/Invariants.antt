-- what is gone so far and of what is left is all that is gone
use Rattle.decl_index.proofs.Common.{◌≡◌, ◌++◌, flat_map, gone_by}
use Rattle.decl_index.proofs.gone.push_set.Given as goal

abbrev pub invariant-loop-entry : goal.invariant-loop-entry
invariant-loop-entry l = l.gone.items ++ flat_map (gone_by l.sources) l.entry-iterator ≡ l.fn.gone.items ++ flat_map (gone_by l.sources) l.entries.keys
