use Rattle.std.proofs.Common.{◌≡◌, map, filter, not}
use Rattle.source_listing.specs.Pages as spec
use Rattle.source_listing.proofs.pages.without_ids.Given as goal

abbrev pub invariant-loop-line : goal.invariant-loop-line
invariant-loop-line l = map (λ x. x.now) l.lines.items ≡ filter (λ line. not (spec.is_id_line line)) (map (λ x. x.now) l.yielded)
