use Rattle.std.proofs.Common.{◌≡◌, false, slice_get, take}
use Rattle.std.specs.List.{All}
use Rattle.def_map.specs.Private.{hidden_by}
use Rattle.def_map.proofs.private.has_hidden.Given as goal

abbrev pub invariant-loop-place : goal.invariant-loop-place
invariant-loop-place l = All (λ p. hidden_by l.table l.fact (slice_get l.closure.facts.keys p) ≡ false) (take l.place-index l.place-items)
