use Rattle.def_map.proofs.CrateNumbers.{derives_alike}
use Rattle.def_map.proofs.NumberedVerdicts.{from_verdict, private_alike}
use Rattle.def_map.proofs.laws.by_numbers.Goals as goal

pub returns-clause-facts : goal.returns-clause-facts
returns-clause-facts g c number item crate ok = derives_alike number item crate ok

pub returns-clause-verdicts : goal.returns-clause-verdicts
returns-clause-verdicts g c number item crate ok i = (from_verdict number item crate ok i, private_alike number item crate ok i)
