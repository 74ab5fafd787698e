use Rattle.source_imports.proofs.Common.{◌≡◌, ◌++◌, map, option_map, take, listed_import, listed_named_view, placed_trees_view, tree_spots}
use Rattle.source_imports.specs.Repeated as spec
use Rattle.source_imports.proofs.repeated.push_listed.Given as goal

abbrev pub invariant-loop-import : goal.invariant-loop-import
invariant-loop-import l =
    let named = spec.named_import l.edition.reserved.items l.around l.at (tree_spots l.fn.finder.text (option_map placed_trees_view l.trees)) in
    record {
      named : map listed_named_view l.found.items ≡ map listed_named_view l.initial.found.items ++ map named (map listed_import (take l.import-index l.imports));
      same : l.finder ≡ l.fn.finder;
    }
