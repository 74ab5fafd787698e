use Rattle.decl_index.proofs.Common.{◌≡◌, ◌++◌, take, flat_map, entries_by}
use Rattle.decl_index.proofs.index.read_items.Given as goal

abbrev pub invariant-loop-id : goal.invariant-loop-id
invariant-loop-id l = l.fresh.items ≡ l.initial.fresh.items ++ flat_map (entries_by l.tree l.place l.krate) (take l.id-index l.ids)
