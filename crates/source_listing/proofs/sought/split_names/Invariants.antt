use Rattle.std.proofs.Common.{◌≡◌, length, map, string_bytes}
use Rattle.source_listing.specs.Sought as spec
use Rattle.source_listing.proofs.NamePaths.{read_before}
use Rattle.source_listing.proofs.sought.split_names.Given as goal

abbrev pub invariant-loop-left : goal.invariant-loop-left
invariant-loop-left l = spec.split_names (map (λ w. w.now) l.fn.words) ≡ read_before (string_bytes l.scope) (spec.split_names (map (λ w. w.now) l.left))

abbrev pub decreases-loop-left : goal.decreases-loop-left
decreases-loop-left l = length l.left
