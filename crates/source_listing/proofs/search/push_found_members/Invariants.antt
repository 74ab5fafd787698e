-- the members so far that are looked for are added
use Rattle.source_listing.proofs.Common.{◌≡◌, ◌++◌, flat_map, map, take, listed_view, query_view}
use Rattle.source_listing.specs.Search.{member_found}
use Rattle.source_listing.specs.Views.{candidate_view}
use Rattle.source_listing.proofs.search.push_found_members.Given as goal

abbrev pub invariant-loop-member : goal.invariant-loop-member
invariant-loop-member l =
    map candidate_view l.found.items ≡ map candidate_view l.fn.found.items ++ flat_map (member_found (query_view l.fn.query) l.fn.scope) (map listed_view (take l.member-index l.fn.members))
