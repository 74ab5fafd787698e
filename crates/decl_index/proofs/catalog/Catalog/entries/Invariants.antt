-- what is listed and the shelves that are left are all
use Rattle.decl_index.proofs.Common.{◌≡◌, ◌++◌, flat_map, map, BTreeSet, Entry}
use Rattle.decl_index.proofs.catalog.Catalog.entries.Given as goal

abbrev pub invariant-loop-shelf : goal.invariant-loop-shelf
invariant-loop-shelf l = map (λ e. e.now) l.all.items ++ flat_map (λ (shelf : BTreeSet Entry). shelf.keys) l.shelf-iterator ≡ flat_map (λ (shelf : BTreeSet Entry). shelf.keys) l.initial.shelf-iterator
