-- what is read and the entries of what is left are the entries of all
use Rattle.decl_index.proofs.Common.{◌≡◌, ◌++◌, All, IsKnown, entries_of}
use Rattle.decl_index.proofs.index.read_changed.Given as goal

abbrev pub invariant-loop-place : goal.invariant-loop-place
invariant-loop-place l = record {
  known : All (λ c. IsKnown l.sources c.1) l.place-iterator;
  read : l.fresh.items ++ entries_of l.sources l.place-iterator ≡ entries_of l.sources l.initial.place-iterator;
}
