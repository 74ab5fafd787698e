use Rattle.source_listing.proofs.Common.{◌≡◌, map, take, string_bytes, flat_map, row_view, reading_view, IsPrinterOf, look_view, file_places, source_view}
use Rattle.source_listing.specs.Outlines.{row_outline}
use Rattle.source_listing.proofs.outlines.outline.Given as goal

abbrev pub invariant-loop-row : goal.invariant-loop-row
invariant-loop-row l =
    let s = source_view l.fn.source in
    let x = reading_view l.fn.reading in
    let all = file_places l.fn.places l.fn.use_trees in
    record {
      text : string_bytes l.out ≡ flat_map (row_outline s l.fn.edition.reserved.items (look_view l.fn.look) x all) (map row_view (take l.row-index l.row-items));
      is : IsPrinterOf s all l.fn.edition l.printer;
    }
