use Rattle.std.proofs.Common.{◌≡◌, ◌++◌, take, string_bytes, flat_map}
use Rattle.source_listing.specs.Paths as spec
use Rattle.source_listing.proofs.paths.push_scope.Given as goal

abbrev pub invariant-loop-name : goal.invariant-loop-name
invariant-loop-name l = string_bytes l.path ≡ string_bytes l.initial.path ++ flat_map (λ n. spec.bare_segment n.now) (take l.name-index l.scope)
