use Rattle.std.proofs.Common.{◌≡◌, map, take}
use Rattle.source_changes.specs.Matches.{CountsAll, pair_now, partners, same_keys}
use Rattle.source_changes.proofs.matching.partners.Given as goal

abbrev pub invariant-loop-one : goal.invariant-loop-one
invariant-loop-one g l = record {
  pairs : map pair_now l.pairs.items ≡ partners (same_keys g.K.PartialEq.eq) l.fn.others (take l.one-index l.list);
  counted : CountsAll g.K.PartialEq.eq l.counts (take l.one-index l.list);
}
