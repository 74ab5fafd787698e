use Rattle.source_imports.proofs.Common.{◌≡◌, ◌++◌, map, option_map, take, flat_map, view, listed_import, placed_trees_view, tree_spots_in}
use Rattle.source_imports.specs.ImportObjects as spec
use Rattle.source_imports.proofs.import_objects.push_imports.Given as goal

abbrev pub invariant-loop-import : goal.invariant-loop-import
invariant-loop-import l =
    let each = spec.import_object l.edition.reserved.items (tree_spots_in l.units l.fn.finder.text (option_map placed_trees_view l.trees)) in
    record {
      objects : map view l.out.items ≡ map view l.initial.out.items ++ flat_map each (map listed_import (take l.import-index l.imports));
      same : l.finder ≡ l.fn.finder;
    }
