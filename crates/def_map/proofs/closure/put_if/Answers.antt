use Rattle.std.proofs.Common.{arith}
use Rattle.std.proofs.lemmas.Map.Made.{AllPairs-from_IsDistinct}
use Rattle.def_map.proofs.Closing.{answers_of}
use Rattle.def_map.proofs.Deciding.{fact_decides}
use Rattle.def_map.proofs.closure.put_if.Goals as goal

pub returns-then-len-gt-MOST_FACTS-clause-refused : goal.returns-then-len-gt-MOST_FACTS-clause-refused
returns-then-len-gt-MOST_FACTS-clause-refused c =
    (omega (arith, c.if-len-gt-MOST_FACTS.true, c.len.ensures.len), AllPairs-from_IsDistinct fact_decides c.insert.new.self.keys c.insert.ensures.unique)

pub returns-clause-has : goal.returns-clause-has
returns-clause-has c = answers_of c.args.fact c.in-Some.fact c.args.found.now.keys c.insert.new.self.keys c.in-Some.is c.in_ok-insert.ensures.keys
