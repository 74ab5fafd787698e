use Rattle.std.proofs.Common.{length, take}
use Rattle.def_map.specs.Found.{AreLeadsKnown}
use Rattle.def_map.proofs.verdict.leads.Given as goal

abbrev pub invariant-loop-fact : goal.invariant-loop-fact
invariant-loop-fact l = AreLeadsKnown l.table (length l.table.imports.items) (take l.fact-index l.facts) l.leads.items
