-- Texts that grow.
use Rattle.std.proofs.Common.{◌≡◌, ℕ, Bool, true, false, List, [], ◌++◌, if◌then◌else◌, ap, sym, ◌∙◌, append_assoc, append-nil}
use Rattle.source_rows.specs.Sources.{BeginsWith}

pub itself : (text : List ℕ) → BeginsWith text text
itself text = ([], sym (append-nil text))

-- where something was added, or not
pub longer : (front text more new : List ℕ) (is_ok : Bool) → BeginsWith front text → new ≡ (if is_ok then text ++ more else text) → BeginsWith front new
longer front text more new true b e = (b.0 ++ more, e ∙ ap (λ t. t ++ more) b.1 ∙ append_assoc front b.0 more)
longer front text more new false b e = (b.0, e ∙ b.1)
