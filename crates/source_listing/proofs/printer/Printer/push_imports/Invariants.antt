use Rattle.source_listing.proofs.Common.{◌≡◌, ◌++◌, map, option_map, take, string_bytes, flat_map, listed_import, look_view, row_view, IsSameFile, file_of, reserved_of, placed_trees_view}
use Rattle.source_listing.specs.Outlines.{opened_text}
use Rattle.source_listing.proofs.printer.Printer.push_imports.Given as goal

abbrev pub invariant-loop-import : goal.invariant-loop-import
invariant-loop-import l =
    let text = opened_text (file_of l.fn.self) (reserved_of l.fn.self) (look_view l.fn.look) (row_view l.fn.row) (option_map placed_trees_view l.trees) in
    record {
      text : string_bytes l.out ≡ string_bytes l.fn.out ++ flat_map text (map listed_import (take l.import-index l.imports));
      same : IsSameFile l.fn.self l.self;
    }
