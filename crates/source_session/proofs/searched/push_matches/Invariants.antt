-- the objects of what was found so far are added, and the lines are of the same text
use Rattle.std.proofs.Common.{◌≡◌, ◌++◌, map, take}
use Rattle.serde_json.specs.View.{view}
use Rattle.source_listing.specs.Views.{candidate_view}
use Rattle.source_session.specs.Searches.{match_at}
use Rattle.source_session.proofs.searched.push_matches.Given as goal

abbrev pub invariant-loop-candidate : goal.invariant-loop-candidate
invariant-loop-candidate l = record {
  values : map view l.values.items ≡ map view l.fn.values.items ++ map (match_at l.fn.units l.fn.lines l.fn.place l.fn.krate) (map candidate_view (take l.candidate-index l.fn.found));
  same : l.lines ≡ l.fn.lines;
}
