use Rattle.std.proofs.Common.{◌≡◌, take}
use Rattle.source_changes.specs.Matches.{CountsAll, ranks, same_keys}
use Rattle.source_changes.proofs.matching.ranks.Given as goal

abbrev pub invariant-loop-one : goal.invariant-loop-one
invariant-loop-one g l = record {
  ranks : l.ranks.items ≡ ranks (same_keys g.K.PartialEq.eq) (take l.one-index l.list);
  counted : CountsAll g.K.PartialEq.eq l.counts (take l.one-index l.list);
}
