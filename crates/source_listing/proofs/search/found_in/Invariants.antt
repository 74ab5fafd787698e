-- what is found are the items and members of the rows so far that are looked for
use Rattle.source_listing.proofs.Common.{◌≡◌, map, take, row_view, reading_view, query_view}
use Rattle.source_listing.specs.Search.{found_in_rows}
use Rattle.source_listing.specs.Views.{candidate_view}
use Rattle.source_listing.proofs.search.found_in.Given as goal

abbrev pub invariant-loop-row : goal.invariant-loop-row
invariant-loop-row l = record {
  found : map candidate_view l.found.items ≡ found_in_rows (reading_view l.fn.reading) l.fn.places (query_view l.fn.query) (map row_view (take l.row-index l.row-items));
  same : l.places ≡ l.fn.places;
}
