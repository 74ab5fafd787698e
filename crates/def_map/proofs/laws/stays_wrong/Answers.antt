use Rattle.def_map.proofs.Staying.{stays_wrong, stays_too_wide}
use Rattle.def_map.proofs.laws.stays_wrong.Goals as goal

pub returns-clause-fails : goal.returns-clause-fails
returns-clause-fails g c first second whole all i fails = stays_wrong first second whole all i fails

pub returns-clause-too_wide : goal.returns-clause-too_wide
returns-clause-too_wide g c first second whole all i wide = stays_too_wide first second whole all i wide
