-- what is listed and what is left are all
use Rattle.decl_index.proofs.Common.{◌≡◌, ◌++◌, map}
use Rattle.decl_index.proofs.catalog.push_lent.Given as goal

abbrev pub invariant-loop-entry : goal.invariant-loop-entry
invariant-loop-entry l = map (λ e. e.now) l.all.items ++ l.entry-iterator ≡ map (λ e. e.now) l.fn.all.items ++ l.set.keys
