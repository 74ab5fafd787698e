use Rattle.std.proofs.Common.{◌≡◌, ◌++◌, map, take}
use Rattle.source_changes.specs.Matches.{match_now, match_of, pair_now}
use Rattle.source_changes.proofs.matching.push_all_new.Given as goal

abbrev pub invariant-loop-pair : goal.invariant-loop-pair
invariant-loop-pair g l = map match_now l.found.items ≡ map match_now l.initial.found.items ++ map match_of (map pair_now (take l.pair-index l.pairs))
