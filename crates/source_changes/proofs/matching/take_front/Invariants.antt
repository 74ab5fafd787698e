use Rattle.std.proofs.Common.{◌≡◌, length, map}
use Rattle.source_changes.specs.Matches.{match_now, matches_of, matched_behind, same_keys}
use Rattle.source_changes.proofs.matching.take_front.Given as goal

abbrev pub invariant-pairs : goal.invariant-pairs
invariant-pairs g l =
    matched_behind (same_keys g.K.PartialEq.eq) (map match_now l.both.items) l.olds.now l.news.now ≡ matches_of (same_keys g.K.PartialEq.eq) l.initial.olds.now l.initial.news.now

abbrev pub decreases-pairs : goal.decreases-pairs
decreases-pairs g l = length l.olds.now
