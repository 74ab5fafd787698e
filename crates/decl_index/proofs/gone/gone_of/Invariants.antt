-- what is gone is that of the entries so far
use Rattle.decl_index.proofs.Common.{◌≡◌, flat_map, map, take, gone_by}
use Rattle.decl_index.proofs.gone.gone_of.Given as goal

abbrev pub invariant-loop-entry : goal.invariant-loop-entry
invariant-loop-entry l = l.gone.items ≡ flat_map (gone_by l.sources) (map (λ e. e.now) (take l.entry-index l.entries))
