use Rattle.std.proofs.Common.{◌≡◌, length}
use Rattle.rust_mended.specs.Marks.{blanks_behind}
use Rattle.rust_mended.proofs.line.pass_blanks.Given as goal

abbrev pub invariant-blanks : goal.invariant-blanks
invariant-blanks l = blanks_behind l.line l.rest ≡ blanks_behind l.fn.line l.text

abbrev pub decreases-blanks : goal.decreases-blanks
decreases-blanks l = length l.rest
