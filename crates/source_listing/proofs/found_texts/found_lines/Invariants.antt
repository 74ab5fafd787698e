use Rattle.source_listing.proofs.Common.{◌≡◌, [], flat_map, map, file_places, take, string_bytes, IsPrinterOf, source_view}
use Rattle.source_listing.specs.Search.{found_text}
use Rattle.source_listing.specs.Views.{candidate_view}
use Rattle.source_listing.proofs.found_texts.found_lines.Given as goal

abbrev pub invariant-loop-candidate : goal.invariant-loop-candidate
invariant-loop-candidate l = record {
  text : string_bytes l.out ≡ flat_map (found_text (source_view l.fn.source) l.fn.edition.reserved.items l.fn.query.form) (map candidate_view (take l.candidate-index l.candidate-items));
  is : IsPrinterOf (source_view l.fn.source) (file_places l.fn.places []) l.fn.edition l.printer;
}
