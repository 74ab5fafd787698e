use Rattle.source_imports.proofs.Common.{◌≡◌, map, take, flat_map, view, declaration_view, file_places, with_places}
use Rattle.source_imports.specs.ImportObjects as spec
use Rattle.source_imports.proofs.import_objects.import_items.Given as goal

abbrev pub invariant-loop-declaration : goal.invariant-loop-declaration
invariant-loop-declaration l = record {
  objects : map view l.out.items ≡ flat_map (λ d. spec.seen_objects l.fn.units l.fn.text l.fn.edition.reserved.items (file_places l.fn.places l.fn.use_trees) (declaration_view l.fn.tree d)) (take l.declaration-index l.declaration-items);
  is : l.finder ≡ with_places l.fn.text (file_places l.fn.places l.fn.use_trees);
}
