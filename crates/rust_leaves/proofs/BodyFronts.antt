-- Where an item may begin is the same of tokens beside.
use Rattle.std.proofs.Common.{◌≡◌}
use Rattle.rust_leaves.proofs.Common.{Bodies, Beside, Tokens, begins_call, behind_others}
use Rattle.rust_cursor.proofs.SideReaders.{alongside, beside_on}
use Rattle.rust_leaves.proofs.Fronts.{begins_call_same, behind_others_onward}

pub begins_call_beside : (b : Bodies) (ts us : Tokens) → Beside b ts us → begins_call us ≡ begins_call ts
begins_call_beside b = begins_call_same (alongside b)

pub behind_others_beside : (b : Bodies) (ts us : Tokens) → Beside b ts us → Beside b (behind_others ts) (behind_others us)
behind_others_beside b ts us h = beside_on (behind_others_onward (alongside b) ts us h)
