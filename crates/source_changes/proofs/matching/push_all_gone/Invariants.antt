use Rattle.std.proofs.Common.{◌≡◌, ◌++◌, map, take, flat_map}
use Rattle.source_changes.specs.Matches.{gone_of, match_now, pair_now}
use Rattle.source_changes.proofs.matching.push_all_gone.Given as goal

abbrev pub invariant-loop-pair : goal.invariant-loop-pair
invariant-loop-pair g l = map match_now l.found.items ≡ map match_now l.initial.found.items ++ flat_map gone_of (map pair_now (take l.pair-index l.pairs))
