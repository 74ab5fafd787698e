use Rattle.source_imports.proofs.Common.{◌≡◌, ◌++◌, map, option_map, take, string_bytes, flat_map, listed_import, numbered_import, option_copied, placed_trees_view, tree_spots}
use Rattle.hir_input.specs.Cfg.{cfg_view}
use Rattle.source_imports.specs.Removals.{removals}
use Rattle.source_imports.proofs.imports.push_imports.Given as goal

abbrev pub invariant-loop-import : goal.invariant-loop-import
invariant-loop-import l =
    let a = l.around in
    let trees = option_map placed_trees_view l.trees in
    let line = numbered_import l.edition.reserved.items a.form a.source.path.now a.scope.now (option_copied a.visibility) (map cfg_view a.cfgs.now) (removals a.source.text.now trees) (tree_spots l.fn.finder.text trees) in
    record {
      text : string_bytes l.out ≡ string_bytes l.initial.out ++ flat_map line (map listed_import (take l.import-index l.imports));
      same : l.finder ≡ l.fn.finder;
    }
