use Rattle.std.proofs.Common.{take}
use Rattle.source_changes.specs.Matches.{CountsAll, FindsAll}
use Rattle.source_changes.proofs.matching.table.Given as goal

abbrev pub invariant-loop-one : goal.invariant-loop-one
invariant-loop-one g l = record {
  finds : FindsAll g.K.PartialEq.eq l.table (take l.one-index l.list);
  counted : CountsAll g.K.PartialEq.eq l.counts (take l.one-index l.list);
}
