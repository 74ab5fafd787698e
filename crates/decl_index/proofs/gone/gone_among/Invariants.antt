-- what is gone so far and of the trees that are left is all that is gone
use Rattle.decl_index.proofs.Common.{◌≡◌, ◌++◌, flat_map, gone_at}
use Rattle.decl_index.proofs.gone.gone_among.Given as goal

abbrev pub invariant-loop-place : goal.invariant-loop-place
invariant-loop-place l = l.gone.items ++ flat_map (λ c. gone_at l.sources l.trees c.0 c.1) l.place-iterator ≡ flat_map (λ c. gone_at l.sources l.trees c.0 c.1) l.initial.place-iterator
