use Rattle.source_listing.proofs.Common.{◌≡◌, map, take, view, listed_view, IsSameFile, file_of, reserved_of, member_object}
use Rattle.source_listing.proofs.json.member_values.Given as goal

abbrev pub invariant-loop-member : goal.invariant-loop-member
invariant-loop-member l = record {
  objects : map view l.values.items ≡ map (member_object l.fn.listing.units (file_of l.fn.printer).text (reserved_of l.fn.printer)) (map listed_view (take l.member-index l.member-items));
  same : IsSameFile l.fn.printer l.printer;
}
