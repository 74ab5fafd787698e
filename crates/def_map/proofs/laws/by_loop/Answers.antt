use Rattle.def_map.proofs.LoopFacts.{closes_alike}
use Rattle.def_map.proofs.Privacy.{are_private}
use Rattle.def_map.proofs.Telling.{finds_all, told_rightly}
use Rattle.def_map.proofs.laws.by_loop.Goals as goal

pub returns-clause-closes : goal.returns-clause-closes
returns-clause-closes c = closes_alike

pub returns-clause-finds : goal.returns-clause-finds
returns-clause-finds c = finds_all

pub returns-clause-told : goal.returns-clause-told
returns-clause-told c = told_rightly

pub returns-clause-private : goal.returns-clause-private
returns-clause-private c = are_private
