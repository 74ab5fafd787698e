use Rattle.std.proofs.Common.{nat_eq, [], take}
use Rattle.std.specs.List.{filter_map}
use Rattle.def_map.specs.Numbering.{Interns}
use Rattle.def_map.specs.Private.{hidden_from}
use Rattle.def_map.proofs.private.private_imports.Given as goal

abbrev pub invariant-loop-fact : goal.invariant-loop-fact
invariant-loop-fact l = Interns nat_eq (λ n. n) [] l.found.keys (filter_map (hidden_from l.table l.closure.facts.keys) (take l.fact-index l.fact-items))
