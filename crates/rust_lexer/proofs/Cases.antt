-- A case by a test.
use Rattle.std.proofs.Common.{◌≡◌, Bool, true, false, ⊎_elim}
use Rattle.rust_lexer.proofs.Common.{cases_Bool}

pub when : {P : Type 0} (t : Bool) → (t ≡ true → P) → (t ≡ false → P) → P
when t on off = ⊎_elim on off (cases_Bool t)
