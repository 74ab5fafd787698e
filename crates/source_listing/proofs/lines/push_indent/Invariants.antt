use Rattle.std.proofs.Common.{◌≡◌, ◌*◌, ◌++◌, replicate, string_bytes}
use Rattle.source_listing.proofs.lines.push_indent.Given as goal

abbrev pub invariant-loop-level : goal.invariant-loop-level
invariant-loop-level l = string_bytes l.out ≡ string_bytes l.fn.out ++ replicate (4 * l._level) 32
