use Rattle.source_imports.proofs.Common.{◌≡◌, take, string_bytes, flat_map, declaration_view, file_places, seen_lines, source_view, import_choice_view, with_places}
use Rattle.source_imports.proofs.imports.import_lines.Given as goal

abbrev pub invariant-loop-declaration : goal.invariant-loop-declaration
invariant-loop-declaration l = record {
  text : string_bytes l.out ≡ flat_map (λ d. seen_lines l.fn.edition.reserved.items l.fn.form (import_choice_view l.fn.choice) (source_view l.fn.source) (file_places l.fn.places l.fn.use_trees) (declaration_view l.fn.tree d)) (take l.declaration-index l.declaration-items);
  is : l.finder ≡ with_places l.fn.source.text.now (file_places l.fn.places l.fn.use_trees);
}
