use Rattle.std.proofs.Common.{◌≡◌, ◌<◌, ◌+◌, ◌^◌, length}
use Rattle.rust_cursor.proofs.Common.{closing, to_closing}
use Rattle.rust_cursor.proofs.cursor.Cursor.pass_to_closing.Given as goal

abbrev pub invariant-tokens : goal.invariant-tokens
invariant-tokens l = record {
  same : closing l.bracket l.nest l.self ≡ to_closing l.bracket l.initial.self;
  braces : l.nest.braces + length l.self.left < 2 ^ 64;
  others : l.nest.others + length l.self.left < 2 ^ 64;
}

abbrev pub decreases-tokens : goal.decreases-tokens
decreases-tokens l = length l.self.left
