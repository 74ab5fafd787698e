use Rattle.def_map.proofs.Staying.{completes_itself}
use Rattle.def_map.proofs.laws.completions.Goals as goal

pub returns : goal.returns
returns g c crate whole = completes_itself crate whole.rising
