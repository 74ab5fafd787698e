use Rattle.source_listing.proofs.Common.{◌≡◌, ◌++◌, take, string_bytes, flat_map}
use Rattle.source_listing.specs.Outlines.{name_around}
use Rattle.source_listing.proofs.entry_lines.push_around.Given as goal

abbrev pub invariant-loop-name : goal.invariant-loop-name
invariant-loop-name l = string_bytes l.out ≡ string_bytes l.fn.out ++ flat_map (λ n. name_around n.now) (take l.name-index l.fn.scope)
