-- Texts that go on as they were.
use Rattle.std.proofs.Common.{◌≡◌, ℕ, Bool, true, false, List, ◌++◌, if◌then◌else◌, refl, sym, subst}
use Rattle.std.proofs.Transfers.{starts_with_of_eq, starts_with_of_append, starts_with_trans}
use Rattle.std.specs.Io.{StartsWith}

pub itself : (text : List ℕ) → StartsWith text text
itself text = starts_with_of_eq text text refl

-- where something was added, or not
pub longer : (front text more new : List ℕ) (is_ok : Bool) → StartsWith text front → new ≡ (if is_ok then text ++ more else text) → StartsWith new front
longer front text more new true s e = starts_with_trans new text front (starts_with_of_append new text more e) s
longer front text more new false s e = subst (λ t. StartsWith t front) (sym e) s

pub joined : (front text new : List ℕ) → StartsWith text front → StartsWith new text → StartsWith new front
joined front text new s t = starts_with_trans new text front t s
